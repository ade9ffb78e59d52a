use Rattle.gb_terms.specs.declared.module.Mexp.{Mexp}
use Rattle.gb_goal.specs.Answers.{Answer}
use Rattle.gb_goal.specs.Answers.Answer.{given}
use Rattle.gb_names.proofs.Answers.{leads_on}
use Rattle.gb_names.proofs.modules.fitting.Goals as goal

pub returns : goal.returns
returns c =
    let k : Unit {0} → Answer Mexp = λ _. given c.args.known.«module» in
    leads_on _ k tt c.in_ok-meets_named.ensures
