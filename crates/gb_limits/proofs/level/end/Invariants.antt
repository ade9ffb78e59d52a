use Rattle.std.proofs.Common.{◌≡◌, length}
use Rattle.gb_limits.specs.Level.{ended}
use Rattle.gb_limits.proofs.level.end.Given as goal

abbrev pub invariant-loop-level : goal.invariant-loop-level
invariant-loop-level l = ended l.opening l.levels ≡ ended l.opening l.initial.levels

abbrev pub decreases-loop-level : goal.decreases-loop-level
decreases-loop-level l = length l.levels
