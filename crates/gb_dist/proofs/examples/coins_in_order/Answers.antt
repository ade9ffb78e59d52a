use Rattle.std.proofs.Common.{◌≡◌, Bool, true, false, refl, arith}
use Rattle.std.proofs.lemmas.Bool.{false≢true}
use mathlib.Core.Bool.{Bool-discrete}
use Rattle.gb_dist.specs.Coupling.{Passes}
use Rattle.gb_dist.specs.Examples.{coin, unfair_coin, implies}
use Rattle.gb_dist.proofs.Existence.{obstructed, has_coupling-true}
use Rattle.gb_dist.proofs.examples.coins_in_order.Goals as goal

closed : (a b : Bool) → a ≡ true → implies a b ≡ true → b ≡ true
closed true b h q = q
closed false b h q = absurd (false≢true h)

pub returns : goal.returns
returns c = record {
  test_fails = refl;
  truths_are_closed = closed;
  first_is_heavier = omega arith;
  no_coupling = obstructed (Passes implies) coin 2 unfair_coin 3 (record { s = λ a. a; u = λ b. b; closed = closed; heavier = omega arith });
  test_passes = refl;
  coupling = has_coupling-true Bool-discrete implies unfair_coin 3 coin 2 (omega arith) (omega arith) refl;
}
