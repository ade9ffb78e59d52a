use Rattle.gb_shown.proofs.name_laws.named_goals_are_read.Goals as goal

pub returns : goal.returns
returns c = λ ds ss es q k d. c.typed_goals_are_read.ensures ds ss es q k (c.named_goals_are_spelt.ensures ds ss es q k d)
