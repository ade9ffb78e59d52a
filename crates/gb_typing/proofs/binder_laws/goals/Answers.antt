use Rattle.gb_typing.proofs.DeclaredModules.{goal_declared, goal_bound}
use Rattle.gb_typing.proofs.binder_laws.goals.Goals as goal

pub returns : goal.returns
returns c = record { declared = goal_declared; bound = goal_bound }
