use Rattle.gb_shown.proofs.goal_laws.typed_goals_are_read.Goals as goal

pub returns : goal.returns
returns c = λ ds ss es q k d. c.printed_goals_are_read.ensures ss es q (c.typed_goals_can_be_written.ensures ds ss es q k d)
