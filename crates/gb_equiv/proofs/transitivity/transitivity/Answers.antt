use Rattle.gb_equiv.proofs.transitivity.transitivity.Goals as goal

pub returns : goal.returns
returns c = c.placed.ensures _ c.by_way-made.ensures
