use Rattle.gb_call_both.proofs.RulesAreSound.{each_sound}
use Rattle.gb_call_both.proofs.laws.call_rules.Goals as goal

pub returns : goal.returns
returns x = each_sound
