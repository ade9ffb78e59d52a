use Rattle.gb_accepted.proofs.RelationalEnd.{relational_end}
use Rattle.gb_accepted.proofs.end_laws.relational.Goals as goal

pub returns : goal.returns
returns x = relational_end
