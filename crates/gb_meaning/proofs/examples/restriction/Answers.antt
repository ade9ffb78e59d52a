use Rattle.std.proofs.Common.{refl}
use Rattle.gb_core.specs.declared.value.Value.{out-Value}
use Rattle.gb_meaning.proofs.examples.restriction.Goals as goal

pub returns : goal.returns
unfolding out-Value denote.Hole.Carrier.out
returns c = record { denominator = λ g. refl; entries = λ g j s. refl }
