use Rattle.gb_prog.proofs.Writing.{writes_of_any}
use Rattle.gb_prog.proofs.adversary_laws.any_writes.Goals as goal

pub returns : goal.returns
returns x = writes_of_any
