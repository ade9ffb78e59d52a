use Rattle.gb_typing.proofs.TypedGoals.{conclusion_goal, goal_conclusion, goal_front}
use Rattle.gb_typing.proofs.goal_laws.typing.Goals as goal

pub returns : goal.returns
returns x = record { goal = conclusion_goal; conclusion = goal_conclusion; front = goal_front }
