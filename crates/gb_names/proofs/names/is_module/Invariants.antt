use Rattle.std.proofs.Common.{◌≡◌, drop, bytes_eq}
use Rattle.std.specs.List.{list_any}
use Rattle.gb_names.proofs.names.is_module.Given as goal

abbrev pub invariant-loop-x : goal.invariant-loop-x
invariant-loop-x l = list_any (λ x. bytes_eq x.name l.name) (drop l.x-index l.list) ≡ list_any (λ x. bytes_eq x.name l.name) l.list
