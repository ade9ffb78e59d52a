use Rattle.gb_dist.proofs.Gluing.{coupling_gluing}
use Rattle.gb_dist.proofs.coupling_laws.gluing.Goals as goal

pub returns : goal.returns
returns g c = λ e l1 k1 l2 k2 l3 k3 h c1 c2. coupling_gluing e g.Q.Relation.Related g.R.Relation.Related h c1 c2
