use Rattle.std.proofs.Common.{◌≡◌, drop}
use Rattle.std.specs.List.{list_any}
use Rattle.gb_terms.specs.Equal.{var_eq}
use Rattle.gb_walk.proofs.clash.is_among.Given as goal

abbrev pub invariant-loop-x : goal.invariant-loop-x
invariant-loop-x l = list_any (var_eq l.var) (drop l.x-index l.list) ≡ list_any (var_eq l.var) l.list
