use Rattle.gb_bodies.proofs.WpIsSound.{sound}
use Rattle.gb_bodies.proofs.wp.wp_is_sound.Goals as goal

pub returns : goal.returns
returns x = sound
