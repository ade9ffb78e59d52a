-- The lemma on two coins holds.
use Rattle.std.proofs.Common.{◌≡◌, ℕ, Bool, true, false, [], ◌∷◌, refl, arith}
use Rattle.std.proofs.lemmas.Bool.{false≢true}
use Rattle.gb_core.specs.declared.value.Value.{out-Value}
use Rattle.gb_core.specs.declared.value.Value.TheVariants.{Num}
use Rattle.gb_meaning.specs.Names.{Name}
use Rattle.gb_meaning.specs.Values.{World}
use Rattle.gb_meaning.specs.Memory.{outcome}
use Rattle.gb_meaning.specs.Setting.{Setting}
use Rattle.gb_meaning.specs.Meanings.{of_truth, truth}
use Rattle.gb_meaning.specs.State.{State}
use Rattle.gb_meaning.specs.Sound.{IsDistribution}
use Rattle.gb_meaning.specs.Judgments.{Judge, IsJudged, Stands, IsTrueIn}
use Rattle.gb_meaning.specs.Settings.{Table, setting}
use Rattle.gb_meaning.specs.Holds.{Holds, interpretation}
use Rattle.gb_meaning.specs.Coins.{fair_coin, two_coins, coins_are_alike, coin_sequent}

told : (b : Bool) → b ≡ true → truth (of_truth b) ≡ true
unfolding out-Value denote.Hole.Carrier.out
told true h = refl
told false h = absurd (false≢true h)

coin_is_distribution : (g : Setting) → IsDistribution g fair_coin
unfolding out-Value denote.Hole.Carrier.out
coin_is_distribution g = record { positive = omega arith; entries = λ s. (omega arith, tt, (omega arith, tt, tt)); total = λ s. omega arith }

module _ (w : World) (size : Name → ℕ) (table : Table) where
  g : Setting
  g = setting two_coins (interpretation w size table)

  is_judged : IsJudged g coins_are_alike
  unfolding g
  is_judged = ((coin_is_distribution g, tt), (coin_is_distribution g, tt))

  stands : (j : Judge) (s : State) → Stands g j coins_are_alike s
  unfolding g out-Value denote.Hole.Carrier.out
  stands j s = λ m n h. record {
    denominator = 2;
    positive = omega arith;
    pairs =
        ((outcome m.globals (Num 0), outcome n.globals (Num 0)), 1) ∷
        ((outcome m.globals (Num 1), outcome n.globals (Num 1)), 1) ∷ [];
    related = (omega arith, refl, (omega arith, refl, tt));
    left = λ f. refl;
    right = λ f. omega arith;
  }

  is_true : (s : State) → IsTrueIn g coins_are_alike s
  is_true s j fair = told (j coins_are_alike s) ((fair coins_are_alike s is_judged).1 (stands j s))

pub coins_hold : Holds two_coins coin_sequent
unfolding g
coins_hold w size table model vs typed ms hyps = is_true w size table _
