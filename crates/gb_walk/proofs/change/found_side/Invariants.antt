use Rattle.std.proofs.Common.{◌≡◌, drop}
use Rattle.gb_walk.specs.Change.{side_changed}
use Rattle.gb_walk.proofs.change.found_side.Given as goal

abbrev pub invariant-loop-change : goal.invariant-loop-change
invariant-loop-change l = side_changed (drop l.change-index l.changes) l.side ≡ side_changed l.changes l.side
