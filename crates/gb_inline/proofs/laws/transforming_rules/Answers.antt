use Rattle.gb_inline.proofs.RulesAreSound.{each_sound}
use Rattle.gb_inline.proofs.laws.transforming_rules.Goals as goal

pub returns : goal.returns
returns x = each_sound
