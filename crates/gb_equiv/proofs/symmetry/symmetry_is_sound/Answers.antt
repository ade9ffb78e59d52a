use Rattle.gb_equiv.proofs.SymmetryIsSound.{sound}
use Rattle.gb_equiv.proofs.symmetry.symmetry_is_sound.Goals as goal

pub returns : goal.returns
returns x = sound
