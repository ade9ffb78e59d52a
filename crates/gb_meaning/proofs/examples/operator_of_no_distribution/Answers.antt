use Rattle.std.proofs.Common.{refl}
use Rattle.gb_meaning.proofs.examples.operator_of_no_distribution.Goals as goal

pub returns : goal.returns
returns c = record { value = λ g. refl; distribution = λ g. refl }
