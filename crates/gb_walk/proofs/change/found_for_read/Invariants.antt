use Rattle.std.proofs.Common.{◌≡◌, drop}
use Rattle.gb_walk.specs.Change.{found_for_read}
use Rattle.gb_walk.proofs.change.found_for_read.Given as goal

abbrev pub invariant-loop-change : goal.invariant-loop-change
invariant-loop-change l = found_for_read (drop l.change-index l.changes) l.read ≡ found_for_read l.changes l.read
