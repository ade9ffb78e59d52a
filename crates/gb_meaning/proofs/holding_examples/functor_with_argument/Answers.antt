use Rattle.std.proofs.Common.{refl}
use Rattle.gb_meaning.proofs.holding_examples.functor_with_argument.Goals as goal

pub returns-clause-linked : goal.returns-clause-linked
returns-clause-linked c = λ g. refl

pub returns-clause-touched : goal.returns-clause-touched
returns-clause-touched c = refl
