use Rattle.std.proofs.Common.{refl}
use Rattle.gb_core.specs.declared.value.Value.{out-Value}
use Rattle.gb_meaning.proofs.examples.reading.Goals as goal

pub returns-clause-written : goal.returns-clause-written
unfolding out-Value denote.Hole.Carrier.out
returns-clause-written c = λ t. refl

pub returns-clause-of_no_value : goal.returns-clause-of_no_value
unfolding out-Value denote.Hole.Carrier.out
returns-clause-of_no_value c = λ t. refl
