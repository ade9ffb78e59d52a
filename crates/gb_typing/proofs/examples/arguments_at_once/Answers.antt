use Rattle.std.proofs.Common.{refl}
use Rattle.gb_typing.proofs.examples.arguments_at_once.Goals as goal

pub returns : goal.returns
returns x = record { own = refl; exchanged = refl }
