-- Chances behind what is certain.
use Rattle.std.proofs.Common.{◌≡◌, ℕ, suc, ◌*◌, ◌≤◌, ◌<◌, pos, negsuc, Bool, true, false, refl, arith}
use Rattle.std.proofs.lemmas.Bool.{le-leb, leb-true}
use Rattle.gb_terms.specs.declared.op.Rel.TheVariants as rel
use Rattle.gb_dist.specs.WeightedList.{WeightedList, Every, bit, mass, total, weight, bind}
use Rattle.gb_dist.proofs.Masses.{mass-bind_ge, mass-times}
use Rattle.gb_dist.proofs.Weights.{weight-le_total}
use Rattle.gb_meaning.specs.Fractions.{Fraction}
use Rattle.gb_meaning.specs.Judgments.{compares, chance}
use Rattle.gb_meaning.specs.Memory.{Memory}
use Rattle.gb_prog.proofs.Chances.{below, grown, product_positive}
use Rattle.gb_prog.proofs.Certain.{chance_one}

-- Where a first event holds behind a first part, a second one is certain behind a second part, over the denominators d and e.
module _ (l : WeightedList Memory) (k : Memory → WeightedList Memory) (old new : Memory → Bool) (d e : ℕ)
    (sure : Every (λ a. old a ≡ true → e ≤ weight (k a) new) l) where
  -- at least as much weight
  kept : e * weight l old ≤ weight (bind l k) new
  kept = omega (arith, mass-times e l (λ a. bit (old a)), mass-bind_ge {P = λ a. old a ≡ true → e ≤ weight (k a) new} l k (λ b. bit (new b)) (λ a. e * bit (old a)) 1 sure (λ a h. each a (old a) h))
    where
      each : (a : Memory) (b : Bool) → (b ≡ true → e ≤ weight (k a) new) → e * bit b ≤ mass (k a) (λ b. bit (new b)) * 1
      each a true h = let i : e ≤ mass (k a) (λ b. bit (new b)) = h refl in omega (arith, i)
      each a false h = omega arith

  more : (n x : ℕ) → n * d ≤ weight l old * x → n * (d * e) ≤ weight (bind l k) new * x
  more n x h = omega (arith, grown e (n * d) (weight l old * x) h, grown x (e * weight l old) (weight (bind l k) new) kept)

  pub at_least_behind : 0 < d → 0 < e → (b : Fraction) → compares rel.AtLeast (chance l d old) b ≡ true → compares rel.AtLeast (chance (bind l k) (d * e) new) b ≡ true
  at_least_behind p q (pos n, x) h = le-leb (n * (d * e)) (weight (bind l k) new * x) (more n x (leb-true (n * d) (weight l old * x) h))
  at_least_behind p q (negsuc n, x) h = (below (weight (bind l k) new * x) (suc n * (d * e)) (product_positive (suc n) (d * e) (omega arith) (product_positive d e p q))).1

  pub certain_behind : total (bind l k) ≤ d * e → compares rel.Equal (chance l d old) (pos 1, 1) ≡ true → compares rel.Equal (chance (bind l k) (d * e) new) (pos 1, 1) ≡ true
  certain_behind t h = (chance_one (bind l k) (d * e) new).1 (whole ((chance_one l d old).0 h) (weight-le_total (bind l k) new))
    where
      whole : weight l old ≡ d → weight (bind l k) new ≤ total (bind l k) → weight (bind l k) new ≡ d * e
      whole i u = let j : e * weight l old ≡ e * d = λ z. e * i z in omega (arith, j, kept, t, u)
