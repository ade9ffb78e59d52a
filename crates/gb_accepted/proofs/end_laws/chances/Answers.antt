use Rattle.gb_accepted.proofs.ChancesEnd.{chances_end}
use Rattle.gb_accepted.proofs.end_laws.chances.Goals as goal

pub returns : goal.returns
returns x = chances_end
