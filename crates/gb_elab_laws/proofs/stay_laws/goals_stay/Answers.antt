use Rattle.gb_elab_laws.proofs.StayingOn.{goal_stays_on, script_stays}
use Rattle.gb_elab_laws.proofs.Staying.{goal_stays}
use Rattle.gb_elab_laws.proofs.Binders.{goal_stays_bound}
use Rattle.gb_elab_laws.proofs.stay_laws.goals_stay.Goals as goal

pub returns-clause-kinds : goal.returns-clause-kinds
returns-clause-kinds c = goal_stays_on

pub returns-clause-modules : goal.returns-clause-modules
returns-clause-modules c = goal_stays

pub returns-clause-scripts : goal.returns-clause-scripts
returns-clause-scripts c = script_stays

pub returns-clause-binders : goal.returns-clause-binders
returns-clause-binders c = λ ds bs scoped firm q t without k s h. goal_stays_bound ds bs scoped firm k q t without s h
