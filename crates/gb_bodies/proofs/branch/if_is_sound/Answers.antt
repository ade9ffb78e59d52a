use Rattle.gb_bodies.proofs.IfIsSound.{sound}
use Rattle.gb_bodies.proofs.branch.if_is_sound.Goals as goal

pub returns : goal.returns
returns x = λ c a. sound c a
