use Rattle.gb_accepted.proofs.KnownCallsEnd.{known_end}
use Rattle.gb_accepted.proofs.end_laws.known_calls.Goals as goal

pub returns : goal.returns
returns x = known_end
