use Rattle.gb_dist.proofs.Distributions.{same_reflexive, same_symmetric, same_transitive, same_scale, same_bind, same_of_weights}
use Rattle.gb_dist.proofs.list_laws.same_distribution.Goals as goal

pub returns : goal.returns
returns g c = record {
  reflexive = λ l k. same_reflexive l k;
  symmetric = λ l1 k1 l2 k2 e. same_symmetric l1 k1 l2 k2 e;
  transitive = λ l1 k1 l2 k2 l3 k3 h e d. same_transitive l1 k1 l2 k2 l3 k3 h e d;
  scaled = λ w l k. same_scale w l k;
  bound = λ l1 j1 l2 j2 m1 k1 m2 k2 e d. same_bind l1 j1 l2 j2 m1 k1 m2 k2 e d;
  by_outcome = λ d l1 k1 l2 k2 h. same_of_weights d l1 k1 l2 k2 h;
}
