use Rattle.gb_dist.proofs.CoupledEvents.{coupled_masses_le, coupled_masses}
use Rattle.gb_dist.proofs.event_laws.expectations.Goals as goal

pub returns : goal.returns
returns g c = record {
  below = λ l1 k1 l2 k2 f h d r. coupled_masses_le d f h r;
  equal = λ l1 k1 l2 k2 f h d r. coupled_masses d f h r;
}
