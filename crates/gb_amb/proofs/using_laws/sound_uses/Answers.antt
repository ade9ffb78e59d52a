use Rattle.gb_amb.proofs.UseIsSound.{steps_sound}
use Rattle.gb_amb.proofs.using_laws.sound_uses.Goals as goal

pub returns : goal.returns
returns x = steps_sound
