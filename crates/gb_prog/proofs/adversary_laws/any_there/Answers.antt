use Rattle.gb_prog.proofs.There.{any_there}
use Rattle.gb_prog.proofs.adversary_laws.any_there.Goals as goal

pub returns : goal.returns
returns x = any_there
