use Rattle.gb_dist.proofs.Existence.{obstructed, obstruction_of_failure}
use Rattle.gb_dist.proofs.existence_laws.obstructions.Goals as goal

pub returns : goal.returns
returns g c = record {
  no_coupling = λ l1 k1 l2 k2 o. obstructed g.Q.Relation.Related l1 k1 l2 k2 o;
  found = λ d r l1 k1 l2 k2 h1 h2 e h. obstruction_of_failure d r l1 k1 l2 k2 h1 h2 e h;
}
