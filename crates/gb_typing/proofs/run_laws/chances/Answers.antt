use Rattle.gb_typing.proofs.Chances.{chance_scaled}
use Rattle.gb_typing.proofs.run_laws.chances.Goals as goal

pub returns : goal.returns
returns x = chance_scaled
