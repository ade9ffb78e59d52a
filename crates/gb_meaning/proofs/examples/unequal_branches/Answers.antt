use Rattle.std.proofs.Common.{refl}
use Rattle.gb_core.specs.declared.value.Value.{out-Value}
use Rattle.gb_meaning.proofs.examples.unequal_branches.Goals as goal

pub returns : goal.returns
unfolding out-Value denote.Hole.Carrier.out
returns c = record {
  denominator = λ g. refl;
  first_side = λ g. refl;
  second_side = λ g. refl;
}
