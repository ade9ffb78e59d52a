use Rattle.gb_dist.proofs.CoupledEvents.{coupled_event_le, coupled_event, coupled_event_up_to}
use Rattle.gb_dist.proofs.event_laws.events.Goals as goal

pub returns : goal.returns
returns g c = record {
  implied = λ l1 k1 l2 k2 s u d h. coupled_event_le d s u h;
  equal = λ l1 k1 l2 k2 s u d h. coupled_event d s u h;
  up_to_bad = λ l1 k1 l2 k2 s u bad d h. coupled_event_up_to d s u bad h;
}
