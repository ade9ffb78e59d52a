use Rattle.gb_pr.proofs.apply_chance.apply.Goals as goal

pub returns : goal.returns
returns c = c.placed.ensures _ c.answer-made.ensures
