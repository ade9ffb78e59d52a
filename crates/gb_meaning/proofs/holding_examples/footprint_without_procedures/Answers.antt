use Rattle.std.proofs.Common.{refl}
use Rattle.gb_meaning.proofs.holding_examples.footprint_without_procedures.Goals as goal

pub returns : goal.returns
returns c = record { entry = refl; globals = λ size table. refl }
