use Rattle.gb_prog.proofs.Meanings.{means_there}
use Rattle.gb_prog.proofs.adversary_laws.meanings.Goals as goal

pub returns : goal.returns
returns x = means_there
