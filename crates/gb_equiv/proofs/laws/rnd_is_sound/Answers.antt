use Rattle.gb_equiv.proofs.RndIsSound.{sound}
use Rattle.gb_equiv.proofs.laws.rnd_is_sound.Goals as goal

pub returns : goal.returns
returns x = sound
