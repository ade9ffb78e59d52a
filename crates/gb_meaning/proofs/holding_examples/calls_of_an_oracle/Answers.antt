use Rattle.std.proofs.Common.{refl}
use Rattle.gb_core.specs.declared.value.Value.{out-Value}
use Rattle.gb_meaning.proofs.holding_examples.calls_of_an_oracle.Goals as goal

pub returns-clause-of_keeper : goal.returns-clause-of_keeper
unfolding out-Value denote.Hole.Carrier.out
returns-clause-of_keeper c = λ g. refl

pub returns-clause-of_coin : goal.returns-clause-of_coin
unfolding out-Value denote.Hole.Carrier.out
returns-clause-of_coin c = λ g globals. refl

pub returns-clause-denominator : goal.returns-clause-denominator
returns-clause-denominator c = λ g. refl
