use Rattle.std.proofs.Common.{◌≡◌, take}
use Rattle.gb_walk.specs.Change.{under_binder}
use Rattle.gb_walk.proofs.change.under_binder.Given as goal

abbrev pub invariant-loop-change : goal.invariant-loop-change
invariant-loop-change l = l.out ≡ under_binder (take l.change-index l.changes)
