use Rattle.gb_sim.proofs.AfterSim.{same_events}
use Rattle.gb_sim.proofs.event_laws.alike_events.Goals as goal

pub returns : goal.returns
returns x = same_events
