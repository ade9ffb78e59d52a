use Rattle.gb_trans.proofs.KillIsSound.{same_events}
use Rattle.gb_trans.proofs.kill_laws.same_events.Goals as goal

pub returns : goal.returns
returns x = same_events
