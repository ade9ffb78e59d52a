use Rattle.std.proofs.Common.{◌||◌, map, ap, ◌∙◌}
use Rattle.gb_closing.specs.Linked.{share, linked}
use Rattle.gb_equality.specs.Variables.{variables}
use Rattle.gb_equality.proofs.Marks.{joined_more}
use Rattle.gb_equality.proofs.components.marks_of.Goals as goal

pub loop-turn-preserved : goal.loop-turn-preserved
loop-turn-preserved c =
    c.in_ok-marks-2.ensures
    ∙ ap (λ ms. map (λ own. share own c.args.from.now || linked own c.as_slice-in-loop-turn.result.now ms) c.as_slice-in-loop-turn.result.now) c.as_slice-in-loop-turn-2.ensures
    ∙ ap (λ all. map (λ own. share own c.args.from.now || linked own all c.loop-turn.marks) all) (c.as_slice-in-loop-turn.ensures ∙ c.in_ok-all.ensures)
    ∙ joined_more c.loop-turn.turn (map variables c.args.hyps.now) c.args.from.now c.loop-turn.marks c.loop-turn.invariant
