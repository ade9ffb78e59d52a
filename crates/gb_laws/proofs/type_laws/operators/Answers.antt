use Rattle.gb_laws.proofs.Operated.{operated_in}
use Rattle.gb_laws.proofs.type_laws.operators.Goals as goal

pub returns : goal.returns
returns c = operated_in
