use Rattle.gb_prog.proofs.Weights.{full_of_any}
use Rattle.gb_prog.proofs.adversary_laws.any_full.Goals as goal

pub returns : goal.returns
returns x = full_of_any
