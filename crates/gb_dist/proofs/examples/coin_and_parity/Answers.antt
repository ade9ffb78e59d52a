use Rattle.std.proofs.Common.{true, false, [], ◌∷◌, refl, arith}
use Rattle.gb_dist.proofs.examples.coin_and_parity.Goals as goal

pub returns : goal.returns
returns c = record {
  denominator = 4;
  positive = omega arith;
  pairs = ((false, 1), 1) ∷ ((true, 2), 1) ∷ ((false, 3), 1) ∷ ((true, 4), 1) ∷ [];
  related = (omega arith, refl, (omega arith, refl, (omega arith, refl, (omega arith, refl, tt))));
  left = λ f. omega arith;
  right = λ f. refl;
}
