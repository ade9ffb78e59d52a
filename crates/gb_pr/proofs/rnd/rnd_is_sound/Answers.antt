use Rattle.gb_pr.proofs.RndIsSound.{sound}
use Rattle.gb_pr.proofs.rnd.rnd_is_sound.Goals as goal

pub returns : goal.returns
returns x ds scoped q t = sound ds scoped q t
