use Rattle.gb_equiv.proofs.one_side.drawn_rule.Goals as goal

pub returns : goal.returns
returns c = c.placed.ensures _ c.drawn-made.ensures
