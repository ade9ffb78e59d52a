use Rattle.gb_trans.proofs.Decides.{same_events}
use Rattle.gb_trans.proofs.guard_event_laws.decided_events.Goals as goal

pub returns : goal.returns
returns x = same_events
