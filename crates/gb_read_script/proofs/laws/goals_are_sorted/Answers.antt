use Rattle.gb_limits.specs.Lexeme.{kinds_of}
use Rattle.gb_read_script.specs.GoalLines.{part_of}
use Rattle.gb_read_script.proofs.Lines.{part_is_line}
use Rattle.gb_read_script.proofs.GoalSorted.{goal_sorted}
use Rattle.gb_read_script.proofs.laws.goals_are_sorted.Goals as goal

pub returns : goal.returns
returns c = λ bytes a x.
    goal_sorted (λ l z. c.trees_are_sorted.ensures.lines (part_of l.sort) (kinds_of l.text) l.text z (part_is_line l.sort)) x.0 a x.1.0.each x.1.1 x.2
