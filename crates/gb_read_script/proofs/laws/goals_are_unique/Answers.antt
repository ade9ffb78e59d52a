use Rattle.std.proofs.Common.{List, ◌≡◌, subst}
use Rattle.gb_script.specs.declared.table.Step.{Step}
use Rattle.gb_script.specs.declared.action.Rule.{Rule}
use Rattle.gb_script.specs.declared.text.Text.{Text}
use Rattle.gb_limits.specs.Lexeme.{kinds_of}
use Rattle.gb_read_script.specs.declared.goal_lines.LineSort.{LineSort}
use Rattle.gb_read_script.specs.declared.goal_lines.ReadGoal.{ReadGoal}
use Rattle.gb_read_script.specs.GoalLines.{part_of, IsLineText}
use Rattle.gb_read_script.specs.Goal.{goal_lines, AreTreesOf}
use Rattle.gb_read_script.proofs.Lines.{part_is_line}
use Rattle.gb_read_script.proofs.GoalUnique.{one_goal, one_sequent}
use Rattle.gb_read_script.proofs.laws.goals_are_unique.Goals as goal

pub returns : goal.returns
returns c = λ bytes a b x y.
    let text : (sort : LineSort) (t : Text) (s u : List (Step Rule)) → IsLineText sort t s → IsLineText sort t u → s ≡ u =
    λ sort t s u. c.steps_are_unique.ensures.lines (part_of sort) (kinds_of t) s u (part_is_line sort) (c.kinds_are_kinds.ensures t) in
    one_sequent (λ l x y. c.trees_are_unique.ensures.lines (part_of l.sort) (kinds_of l.text) l.text x y (part_is_line l.sort) (c.kinds_are_kinds.ensures l.text))
    y.0 a b (subst (λ (g : ReadGoal). AreTreesOf g a) (one_goal text (goal_lines bytes) x.0 y.0 x.1 y.1) x.2) y.2
