use Rattle.gb_loops.proofs.WhileIsSound.{sound}
use Rattle.gb_loops.proofs.while_loop.while_is_sound.Goals as goal

pub returns : goal.returns
returns x = λ ds scoped q typed a v. sound ds scoped q typed v a
