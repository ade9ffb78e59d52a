use Rattle.std.proofs.Common.{refl}
use Rattle.gb_core.specs.declared.value.Value.{out-Value}
use Rattle.gb_meaning.proofs.examples.conditional_distribution.Goals as goal

pub returns : goal.returns
unfolding out-Value denote.Hole.Carrier.out
returns c = record { denominator = λ g. refl; first_side = λ g j s. refl; second_side = λ g j s. refl }
