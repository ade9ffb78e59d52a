use Rattle.gb_dist.proofs.Basic.{coupling_weakening}
use Rattle.gb_dist.proofs.coupling_laws.weakening.Goals as goal

pub returns : goal.returns
returns g c = λ l1 k1 l2 k2 h d. coupling_weakening h d
