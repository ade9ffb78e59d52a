use Rattle.std.proofs.Common.{refl}
use Rattle.gb_core.specs.declared.value.Value.{out-Value}
use Rattle.gb_meaning.proofs.examples.loop_with_variant.Goals as goal

pub returns : goal.returns
unfolding out-Value denote.Hole.Carrier.out
returns c = record { denominator = λ g. refl; no_turn = λ g. refl; one_turn = λ g. refl; two_turns = λ g. refl }
