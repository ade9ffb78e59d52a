use Rattle.gb_dist.proofs.Sequence.{coupling_sequence}
use Rattle.gb_dist.proofs.coupling_laws.sequence.Goals as goal

pub returns : goal.returns
returns g c = λ l1 j1 l2 j2 m1 k1 m2 k2 d h. coupling_sequence g.Q.Relation.Related m1 k1 m2 k2 g.R.Relation.Related d h
