use Rattle.std.proofs.Common.{◌≡◌, take}
use Rattle.gb_walk.specs.Change.{without, is_own}
use Rattle.gb_walk.proofs.change.without_own.Given as goal

abbrev pub invariant-loop-change : goal.invariant-loop-change
invariant-loop-change l = l.out ≡ without is_own (take l.change-index l.changes)
