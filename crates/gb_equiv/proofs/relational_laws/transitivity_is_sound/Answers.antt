use Rattle.gb_equiv.proofs.TransitivityIsSound.{sound}
use Rattle.gb_equiv.proofs.relational_laws.transitivity_is_sound.Goals as goal

pub returns : goal.returns
returns x = sound
