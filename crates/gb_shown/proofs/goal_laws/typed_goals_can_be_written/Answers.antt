use Rattle.gb_shown.proofs.TypedGoals.{goal_written}
use Rattle.gb_shown.proofs.goal_laws.typed_goals_can_be_written.Goals as goal

pub returns : goal.returns
returns x = goal_written
