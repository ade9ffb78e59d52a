use Rattle.gb_accepted.proofs.BodiesEnd.{bodies_end}
use Rattle.gb_accepted.proofs.end_laws.bodies.Goals as goal

pub returns : goal.returns
returns x = bodies_end
