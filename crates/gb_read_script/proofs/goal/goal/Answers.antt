use Rattle.std.proofs.Common.{subst}
use Rattle.gb_script.specs.declared.text.Text.{Text}
use Rattle.gb_read_script.specs.Line.{line_texts}
use Rattle.gb_read_script.specs.GoalLines.{IsRefusedFor, IsGoal}
use Rattle.gb_read_script.specs.Goal.{IsLineRefusal, IsGoalRefusal}
use Rattle.gb_read_script.proofs.Refusals.{line_refused, only_memory}
use Rattle.gb_read_script.proofs.goal.goal.Goals as goal

pub returns-in-Err-within_limits-clause-only : goal.returns-in-Err-within_limits-clause-only
returns-in-Err-within_limits-clause-only c = λ allowed.
    let bytes = c.args.text.now in
    let e = c.in-Err-within_limits.refused in
    let told = subst (λ (t : Text). IsRefusedFor (IsLineRefusal t) e) c.in-Ok.ensures.text c.in-Err-within_limits.ensures.refused in
    only_memory e (IsGoalRefusal bytes) (line_refused e bytes allowed.faultless allowed.left_out told)
    (λ why place. c.goal_refusals_are_unique.ensures.none bytes why place allowed)

pub returns-in_ok-tree-in-Ok-within_limits-clause-sorted : goal.returns-in_ok-tree-in-Ok-within_limits-clause-sorted
returns-in_ok-tree-in-Ok-within_limits-clause-sorted c =
    let goal = c.in-Ok-within_limits.goal in
    let lines = subst (λ (t : Text). IsGoal (line_texts t) goal) c.in-Ok.ensures.text c.in-Ok-within_limits.ensures.within.lines in
    c.goals_are_sorted.ensures c.args.text.now c.in_ok-tree-in-Ok-within_limits.field-0 (goal, lines, c.in_ok-tree-in-Ok-within_limits.ensures)
