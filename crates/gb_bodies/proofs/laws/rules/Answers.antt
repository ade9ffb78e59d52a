use Rattle.gb_bodies.proofs.RulesAreSound.{each_sound}
use Rattle.gb_bodies.proofs.laws.rules.Goals as goal

pub returns : goal.returns
returns x = each_sound
