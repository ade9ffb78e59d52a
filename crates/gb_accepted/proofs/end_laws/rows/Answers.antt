use Rattle.gb_goal.specs.Goal.{goal_of}
use Rattle.gb_meaning.specs.Declared.{declared}
use Rattle.gb_prog.specs.Ends.{Entered}
use Rattle.gb_accepted.proofs.LiftedEnd.{row_ends}
use Rattle.gb_accepted.proofs.end_laws.rows.Goals as goal

pub returns : goal.returns
returns x = λ ds scope q t r known row law qs e h. row_ends (declared ds) scope q t (λ g. Entered ds g r (goal_of q.conclusion)) known row law qs e h
