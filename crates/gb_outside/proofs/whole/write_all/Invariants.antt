use Rattle.std.proofs.Common.{◌≤◌, ◌-◌, length, take}
use Rattle.std.specs.Io.KnownBytes.{Appends}
use Rattle.gb_outside.proofs.whole.write_all.Given as goal

-- the bytes before `at` were written
abbrev pub invariant-loop-at : goal.invariant-loop-at
invariant-loop-at g l =
    (l.at ≤ length l.bytes) × (g.K.Sink.faults l.fn.out ≤ g.K.Sink.faults l.out) × Appends (g.K.Sink.written l.fn.out) (g.K.Sink.written l.out) (take l.at l.bytes)

abbrev pub decreases-loop-at : goal.decreases-loop-at
decreases-loop-at g l = length l.bytes - l.at
