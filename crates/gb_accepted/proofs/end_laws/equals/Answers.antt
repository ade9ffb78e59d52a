use Rattle.gb_accepted.proofs.RewritesEnd.{rewrites_end}
use Rattle.gb_accepted.proofs.end_laws.equals.Goals as goal

pub returns : goal.returns
returns x = rewrites_end
