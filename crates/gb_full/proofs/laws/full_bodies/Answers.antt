use Rattle.gb_full.proofs.Full.{total_full}
use Rattle.gb_full.proofs.laws.full_bodies.Goals as goal

pub returns : goal.returns
returns x ds scoped q t g fits over ls is w e s m = total_full ds scoped q t g fits over ls is w e s m
