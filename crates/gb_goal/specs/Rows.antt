-- What a rule makes of goals.
use Rattle.std.specs.Prelude.{List, map}
use Rattle.gb_core.specs.declared.place.Place.{Place}
use Rattle.gb_core.specs.declared.refusal.Why.{Why}
use Rattle.gb_goal.specs.declared.sequent.Sequent.{Sequent}
use Rattle.gb_goal.specs.Answers.{Answer, nowhere, placed_at}
use Rattle.gb_goal.specs.Answers.Answer.{given, refused}
use Rattle.gb_goal.specs.Goal.{Goal, form_of, goal_of}

-- what a rule with its arguments makes of a goal
abbrev pub Row : Type 0
Row = Goal → Answer (List Goal)

-- a refusal of a row: it stands at the step
abbrev pub refusing : {A : Type 0} → Why → Answer A
refusing why = refused why nowhere

-- the goal, in the context of a sequent and under its hypotheses
abbrev pub concluding : Sequent → Goal → Sequent
concluding q G = record q { conclusion = form_of G }

abbrev pub each_concluding : Sequent → Answer (List Goal) → Answer (List Sequent)
each_concluding q (given Gs) = given (map (concluding q) Gs)
each_concluding q (refused why place) = refused why place

-- what a rule makes of a sequent
abbrev pub answered : Row → Sequent → Answer (List Sequent)
answered row q = each_concluding q (row (goal_of q.conclusion))

-- the same of a step at a place
abbrev pub stepped : Row → Place → Sequent → Answer (List Sequent)
stepped row place q = placed_at place (answered row q)
