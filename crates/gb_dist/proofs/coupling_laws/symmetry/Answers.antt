use Rattle.gb_dist.proofs.Basic.{coupling_symmetry}
use Rattle.gb_dist.proofs.coupling_laws.symmetry.Goals as goal

pub returns : goal.returns
returns g c = λ l1 k1 l2 k2 d. coupling_symmetry d
