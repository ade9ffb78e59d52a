use Rattle.gb_dist.proofs.Basic.{coupling_dmap}
use Rattle.gb_dist.proofs.coupling_laws.mapping.Goals as goal

pub returns : goal.returns
returns g c = λ l1 k1 l2 k2 f h r d. coupling_dmap g.R.Relation.Related f h r d
