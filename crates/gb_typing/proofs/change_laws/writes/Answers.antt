use Rattle.gb_typing.proofs.Clashes.{left_of_no_clash}
use Rattle.gb_typing.proofs.change_laws.writes.Goals as goal

pub returns : goal.returns
returns x = left_of_no_clash
