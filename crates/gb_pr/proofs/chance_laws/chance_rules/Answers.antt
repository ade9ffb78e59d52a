use Rattle.gb_pr.proofs.ChanceRulesAreSound.{each_sound}
use Rattle.gb_pr.proofs.chance_laws.chance_rules.Goals as goal

pub returns : goal.returns
returns x = each_sound
