use Rattle.gb_dist.proofs.Existence.{coupling_exists, coupling_decided}
use Rattle.gb_dist.proofs.existence_laws.existence.Goals as goal

pub returns : goal.returns
returns g c = record {
  condition = λ d decide l1 k1 l2 k2 h1 h2. coupling_exists d g.Q.Relation.Related decide l1 k1 l2 k2 h1 h2;
  decided = λ d decide l1 k1 l2 k2 h1 h2. coupling_decided d g.Q.Relation.Related decide l1 k1 l2 k2 h1 h2;
}
