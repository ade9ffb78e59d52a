use Rattle.std.proofs.Common.{◌≡◌, map}
use Rattle.gb_equality.specs.Variables.{variables}
use Rattle.gb_equality.specs.Components.{joined}
use Rattle.gb_equality.proofs.components.marks_of.Given as goal

abbrev pub invariant-loop-turn : goal.invariant-loop-turn
invariant-loop-turn l = l.marks ≡ map (joined l.turn (map variables l.hyps) l.from) (map variables l.hyps)
