use Rattle.std.proofs.Common.{◌≡◌, take}
use Rattle.gb_goal.proofs.binders.copy_bounds.Given as goal

abbrev pub invariant-loop-bound : goal.invariant-loop-bound
invariant-loop-bound l = l.made ≡ take l.bound-index l.list
