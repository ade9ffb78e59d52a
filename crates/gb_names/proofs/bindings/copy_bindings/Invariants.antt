use Rattle.std.proofs.Common.{◌≡◌, take}
use Rattle.gb_names.proofs.bindings.copy_bindings.Given as goal

abbrev pub invariant-loop-x : goal.invariant-loop-x
invariant-loop-x l = l.all ≡ take l.x-index l.list
