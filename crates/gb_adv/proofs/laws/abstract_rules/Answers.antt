use Rattle.gb_adv.proofs.RulesAreSound.{each_sound}
use Rattle.gb_adv.proofs.laws.abstract_rules.Goals as goal

pub returns : goal.returns
returns x = each_sound
