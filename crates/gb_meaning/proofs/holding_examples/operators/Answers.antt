use Rattle.std.proofs.Common.{refl}
use Rattle.gb_core.specs.declared.value.Value.{out-Value}
use Rattle.gb_meaning.proofs.holding_examples.operators.Goals as goal

pub returns : goal.returns
unfolding out-Value denote.Hole.Carrier.out
returns c = record { true_and_not_false = λ i. refl; false_and_not_true = λ i. refl; denominator = λ i. refl; of_chosen = λ w size. refl }
