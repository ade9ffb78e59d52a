use Rattle.gb_equiv.proofs.Others.{others_refused}
use Rattle.gb_equiv.proofs.relational_laws.other_goals.Goals as goal

pub returns : goal.returns
returns x = others_refused
