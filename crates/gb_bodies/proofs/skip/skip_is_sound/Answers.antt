use Rattle.gb_bodies.proofs.SkipIsSound.{sound}
use Rattle.gb_bodies.proofs.skip.skip_is_sound.Goals as goal

pub returns : goal.returns
returns x = λ c. sound c
