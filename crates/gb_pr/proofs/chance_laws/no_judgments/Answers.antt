use Rattle.gb_pr.proofs.ChanceRulesAreSound.{others_refused}
use Rattle.gb_pr.proofs.chance_laws.no_judgments.Goals as goal

pub returns : goal.returns
returns x = others_refused
