use Rattle.gb_accepted.proofs.AbstractEnd.{abstract_ends}
use Rattle.gb_accepted.proofs.end_laws.abstract_calls.Goals as goal

pub returns : goal.returns
returns x = abstract_ends
