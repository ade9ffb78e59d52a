use Rattle.gb_trans.proofs.Swaps.{same_events}
use Rattle.gb_trans.proofs.event_laws.swapped_events.Goals as goal

pub returns : goal.returns
returns x = same_events
