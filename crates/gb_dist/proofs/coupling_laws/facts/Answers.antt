use Rattle.gb_dist.proofs.Facts.{coupling_facts}
use Rattle.gb_dist.proofs.coupling_laws.facts.Goals as goal

pub returns : goal.returns
returns g c = λ da db l1 k1 l2 k2 h1 h2 o1 o2 d. coupling_facts da db g.P.Property.Holds g.R.Property.Holds h1 h2 o1 o2 d
