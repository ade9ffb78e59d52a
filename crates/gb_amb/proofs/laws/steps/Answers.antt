use Rattle.gb_amb.proofs.Sound.{steps_sound}
use Rattle.gb_amb.proofs.laws.steps.Goals as goal

pub returns : goal.returns
returns x = steps_sound
