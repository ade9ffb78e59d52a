use Rattle.gb_laws.proofs.Using.{within_changed}
use Rattle.gb_laws.proofs.shape_laws.uses.Goals as goal

pub returns : goal.returns
returns c = within_changed
