use Rattle.gb_dist.proofs.Basic.{coupling_product}
use Rattle.gb_dist.proofs.coupling_laws.product.Goals as goal

pub returns : goal.returns
returns g c = λ l1 k1 l2 k2 h1 h2 e o1 o2 r.
    coupling_product g.P.Property.Holds g.Q.Property.Holds g.R.Relation.Related r l1 k1 l2 k2 o1 o2 e h1 h2
