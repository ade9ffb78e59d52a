use Rattle.gb_accepted.proofs.CallsEnd.{calls_end}
use Rattle.gb_accepted.proofs.end_laws.calls.Goals as goal

pub returns : goal.returns
returns x = calls_end
