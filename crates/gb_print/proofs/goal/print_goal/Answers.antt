use Rattle.std.proofs.Common.{sym, subst}
use Rattle.gb_print.specs.GoalText.{place_of_goal}
use Rattle.gb_print.specs.Goals.{IsGoalReadAs}
use Rattle.gb_print.proofs.goal.print_goal.Goals as goal

pub returns-clause-read : goal.returns-clause-read
returns-clause-read c = λ d.
    subst (λ bytes. IsGoalReadAs bytes (place_of_goal c.args.scope.now c.args.enumerations.now c.args.s.now) c.args.s.now) (sym c.in_ok-bytes.ensures)
    (c.printed_goals_are_read.ensures c.args.scope.now c.args.enumerations.now c.args.s.now d)
