use Rattle.std.proofs.Common.{◌≡◌, map, take}
use Rattle.gb_names.specs.Bindings.{bound_value}
use Rattle.gb_names.proofs.bindings.bound_values.Given as goal

abbrev pub invariant-loop-x : goal.invariant-loop-x
invariant-loop-x l = l.all ≡ map bound_value (take l.x-index l.variables)
