use Rattle.gb_typing.proofs.Changed.{changed}
use Rattle.gb_typing.proofs.change_laws.changes.Goals as goal

pub returns : goal.returns
returns x = changed
