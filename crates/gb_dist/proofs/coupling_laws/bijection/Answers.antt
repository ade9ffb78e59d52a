use Rattle.gb_dist.proofs.Bijection.{coupling_bijection}
use Rattle.gb_dist.proofs.coupling_laws.bijection.Goals as goal

pub returns : goal.returns
returns g c = λ da db f h l1 k1 l2 k2 p o back weights there inverse.
    coupling_bijection da db f h l1 k1 l2 k2 p o back weights there inverse
