use Rattle.std.proofs.Common.{◌≡◌, drop}
use Rattle.std.specs.List.{list_any}
use Rattle.gb_terms.specs.Equal.{read_eq}
use Rattle.gb_smt.proofs.equations.is_among.Given as goal

abbrev pub invariant-loop-read : goal.invariant-loop-read
invariant-loop-read l = list_any (λ q. read_eq q l.r) (drop l.read-index l.list) ≡ list_any (λ q. read_eq q l.r) l.list
