use Rattle.gb_typing.proofs.Shapes.{goal_form, form_goal}
use Rattle.gb_typing.proofs.goal_laws.views.Goals as goal

pub returns : goal.returns
returns x = record { form = goal_form; goal = form_goal }
