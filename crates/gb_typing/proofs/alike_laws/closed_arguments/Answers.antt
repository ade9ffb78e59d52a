use Rattle.gb_typing.proofs.ExpressionsAlike.{closed_argument}
use Rattle.gb_typing.proofs.alike_laws.closed_arguments.Goals as goal

pub returns : goal.returns
returns X c = λ ms ks ls s. closed_argument ms ks ls s
