use Rattle.std.proofs.Common.{true, false, [], ◌∷◌, refl, arith}
use Rattle.gb_dist.proofs.examples.coin_and_negation.Goals as goal

pub returns : goal.returns
returns c = record {
  denominator = 2;
  positive = omega arith;
  pairs = ((true, false), 1) ∷ ((false, true), 1) ∷ [];
  related = (omega arith, refl, (omega arith, refl, tt));
  left = λ f. refl;
  right = λ f. omega arith;
}
