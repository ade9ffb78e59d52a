use Rattle.gb_dist.proofs.Basic.{coupling_left_alone, coupling_right_alone}
use Rattle.gb_dist.proofs.coupling_laws.one_side.Goals as goal

pub returns : goal.returns
returns g c = record {
  left = λ l k b h t o r. coupling_left_alone g.P.Property.Holds g.R.Relation.Related l k b h t o r;
  right = λ l k a h t o r. coupling_right_alone g.Q.Property.Holds g.R.Relation.Related l k a h t o r;
}
