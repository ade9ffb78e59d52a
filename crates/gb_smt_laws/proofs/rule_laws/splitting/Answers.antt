use Rattle.gb_smt_laws.proofs.Rule.{conclusion_true}
use Rattle.gb_smt_laws.proofs.rule_laws.splitting.Goals as goal

pub returns : goal.returns
returns c = λ ds k es known q ready held vs typed ms t u. conclusion_true ds k es known q ready vs typed ms held t u
