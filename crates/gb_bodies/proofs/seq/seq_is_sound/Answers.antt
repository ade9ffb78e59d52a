use Rattle.gb_bodies.proofs.SeqIsSound.{sound}
use Rattle.gb_bodies.proofs.seq.seq_is_sound.Goals as goal

pub returns : goal.returns
returns x = λ c k r. sound c r k
