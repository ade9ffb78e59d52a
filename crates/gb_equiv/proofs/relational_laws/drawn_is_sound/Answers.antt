use Rattle.gb_equiv.proofs.OneSideIsSound.{sound}
use Rattle.gb_equiv.proofs.relational_laws.drawn_is_sound.Goals as goal

pub returns : goal.returns
returns x = sound
