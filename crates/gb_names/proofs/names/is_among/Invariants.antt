use Rattle.std.proofs.Common.{◌≡◌, drop, bytes_eq}
use Rattle.std.specs.List.{list_any}
use Rattle.gb_names.proofs.names.is_among.Given as goal

abbrev pub invariant-loop-x : goal.invariant-loop-x
invariant-loop-x l = list_any (λ x. bytes_eq x l.name) (drop l.x-index l.list) ≡ list_any (λ x. bytes_eq x l.name) l.list
