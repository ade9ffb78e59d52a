use Rattle.gb_trans.proofs.SwapIsSound.{sound}
use Rattle.gb_trans.proofs.swap.swap_is_sound.Goals as goal

pub returns : goal.returns
returns x = sound
