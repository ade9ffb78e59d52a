use Rattle.std.proofs.Common.{subst}
use Rattle.gb_print.specs.GoalText.{place_of_goal, printed_goal}
use Rattle.gb_print.specs.Goals.{IsTreeOf}
use Rattle.gb_print.proofs.GoalsBack.{goal_back}
use Rattle.gb_print.proofs.laws.printed_goals_are_read.Goals as goal

pub returns : goal.returns
returns c = λ ds es s d.
    let at = place_of_goal ds es s in
    let read = goal_back c.kinds_are_kinds.ensures at s d in
    record {
      some = (read.tree, read.spells, read.is_tree);
      only = λ t spelled. subst (λ x. IsTreeOf at s x) (c.goals_are_unique.ensures (printed_goal ds es s) read.tree t read.spells spelled) read.is_tree;
      allowed = read.allowed;
    }
