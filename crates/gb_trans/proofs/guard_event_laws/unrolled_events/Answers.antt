use Rattle.gb_trans.proofs.Unrolls.{same_events}
use Rattle.gb_trans.proofs.guard_event_laws.unrolled_events.Goals as goal

pub returns : goal.returns
returns x = same_events
