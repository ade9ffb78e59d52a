use Rattle.std.proofs.Common.{◌≡◌, drop}
use Rattle.gb_walk.specs.Change.{found_for_bound}
use Rattle.gb_walk.proofs.change.found_for_bound.Given as goal

abbrev pub invariant-loop-change : goal.invariant-loop-change
invariant-loop-change l = found_for_bound (drop l.change-index l.changes) l.index ≡ found_for_bound l.changes l.index
