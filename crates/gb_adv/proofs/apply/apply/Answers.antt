use Rattle.gb_adv.proofs.apply.apply.Goals as goal

pub returns : goal.returns
returns c = c.placed.ensures _ c.answer-made.ensures
