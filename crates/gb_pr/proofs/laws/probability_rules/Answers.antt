use Rattle.gb_pr.proofs.RulesAreSound.{each_sound}
use Rattle.gb_pr.proofs.laws.probability_rules.Goals as goal

pub returns : goal.returns
returns x = each_sound
