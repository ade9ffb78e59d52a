use Rattle.std.proofs.Common.{◌-◌, ◌≤◌, ℕ, List, length}
use Rattle.std.specs.Io.KnownBytes.{Appends}
use Rattle.gb_app.specs.Typing.{typed, IsWithin, LeadsOn}
use Rattle.gb_app.proofs.step.answer_lines.Given as goal

-- what was written leads from the point at first to the point here
abbrev pub invariant-loop-to : goal.invariant-loop-to
invariant-loop-to g l =
    IsWithin l.text l.here
    × (g.K.Sink.faults l.fn.out ≤ g.K.Sink.faults l.out)
    × ((w : List ℕ) × Appends (g.K.Sink.written l.fn.out) (g.K.Sink.written l.out) w
    × LeadsOn l.ended (typed l.fn.session l.text l.fn.point) (typed l.session l.text l.here) w)

abbrev pub decreases-loop-to : goal.decreases-loop-to
decreases-loop-to g l = length l.text - l.here.from
