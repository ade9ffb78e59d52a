use Rattle.std.proofs.Common.{◌-◌, ◌≤◌, length}
use Rattle.std.specs.Io.KnownBytes.{Consumes}
use Rattle.gb_app.specs.Typing.{typed, IsWithin}
use Rattle.gb_app.proofs.Turns.{HasLed}
use Rattle.gb_app.proofs.step.answer_input.Given as goal

-- the text was read, and what was written leads on from it
abbrev pub invariant-loop-here : goal.invariant-loop-here
invariant-loop-here g l =
    IsWithin l.text.items l.point
    × (g.I.Source.faults l.fn.input ≤ g.I.Source.faults l.input)
    × (g.K.Sink.faults l.fn.out ≤ g.K.Sink.faults l.out)
    × Consumes (g.I.Source.left l.fn.input) (g.I.Source.left l.input) l.text.items
    × HasLed (typed l.session l.text.items l.point) (g.K.Sink.written l.fn.out) (g.K.Sink.written l.out)

abbrev pub decreases-loop-here : goal.decreases-loop-here
decreases-loop-here g l = 1048577 - length l.text.items
