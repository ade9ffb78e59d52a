use Rattle.gb_pr.proofs.HoareIsSound.{sound}
use Rattle.gb_pr.proofs.hoare.hoare_is_sound.Goals as goal

pub returns : goal.returns
returns x = sound
