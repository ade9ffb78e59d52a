use Rattle.gb_bodies.proofs.ConseqIsSound.{sound}
use Rattle.gb_bodies.proofs.conseq.conseq_is_sound.Goals as goal

pub returns : goal.returns
returns x = λ c w. sound c w
