use Rattle.gb_loops.proofs.while_loop.apply.Goals as goal

pub returns : goal.returns
returns c = c.placed.ensures _ c.while_loop-made.ensures
