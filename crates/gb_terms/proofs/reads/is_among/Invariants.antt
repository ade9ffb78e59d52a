use Rattle.std.proofs.Common.{◌≡◌, drop}
use Rattle.std.specs.List.{list_any}
use Rattle.gb_terms.specs.Equal.{read_eq}
use Rattle.gb_terms.proofs.reads.is_among.Given as goal

abbrev pub invariant-loop-s : goal.invariant-loop-s
invariant-loop-s l = list_any (λ s. read_eq s l.r) (drop l.s-index l.seen) ≡ list_any (λ s. read_eq s l.r) l.seen
