use Rattle.gb_dist.proofs.Pointwise.{pointwise_of_coupling, coupling_of_pointwise}
use Rattle.gb_dist.proofs.coupling_laws.definitions_agree.Goals as goal

pub returns : goal.returns
returns g c = λ da db l1 k1 l2 k2. (coupling_of_pointwise da db, pointwise_of_coupling da db)
