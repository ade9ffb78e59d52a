use Rattle.gb_dist.proofs.Basic.{coupling_rescaling, coupling_same}
use Rattle.gb_dist.proofs.coupling_laws.other_lists.Goals as goal

pub returns : goal.returns
returns g c = record {
  scaled = λ l1 k1 l2 k2 c1 c2 d. coupling_rescaling c1 c2 d;
  same = λ l1 k1 l2 k2 r1 j1 r2 j2 h1 h2 e1 e2 d. coupling_same r1 j1 r2 j2 h1 h2 e1 e2 d;
}
