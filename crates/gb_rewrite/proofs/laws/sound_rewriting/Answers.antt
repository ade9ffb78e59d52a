use Rattle.gb_rewrite.proofs.Sound.{steps_sound}
use Rattle.gb_rewrite.proofs.laws.sound_rewriting.Goals as goal

pub returns : goal.returns
returns x = steps_sound
