use Rattle.std.proofs.Common.{◌≡◌, take}
use Rattle.gb_walk.specs.Change.{without, is_left_or_right}
use Rattle.gb_walk.proofs.change.without_left_and_right.Given as goal

abbrev pub invariant-loop-change : goal.invariant-loop-change
invariant-loop-change l = l.out ≡ without is_left_or_right (take l.change-index l.changes)
