use Rattle.std.proofs.Common.{◌≡◌, map}
use Rattle.gb_full.specs.Loss.{known_seen, reached_seen, rounds}
use Rattle.gb_full.proofs.loss.losses.Given as goal

abbrev pub invariant-loop-i : goal.invariant-loop-i
invariant-loop-i l = map known_seen l.known ≡ rounds l.scope l.full l.i (map reached_seen l.list)
