-- Events that are certain, or impossible.
use Rattle.std.proofs.Common.{◌≡◌, ◌↔◌, ℕ, ◌*◌, ◌≤◌, Bool, true, false, not, ℤ, pos, negsuc, refl, ap, sym, ◌∙◌, arith}
use Rattle.std.proofs.lemmas.Bool.{false≢true, le-leb, leb-true}
use Rattle.std.proofs.lemmas.Bool.Decides.{Decides-int_eq}
use Rattle.gb_dist.specs.WeightedList.{WeightedList, total, weight, Every, IsPositive}
use Rattle.gb_dist.proofs.Entries.{Every-weaken}
use Rattle.gb_dist.proofs.Weights.{weight-every, weight-le_total, weight-not}
use Rattle.gb_terms.specs.declared.op.Rel.TheVariants.{Equal, AtLeast, AtMost}
use Rattle.gb_meaning.specs.Judgments.{compares, chance}
use Rattle.gb_meaning.specs.Memory.{Memory}
use Rattle.gb_prog.proofs.Loops.{weightless}

abbrev size : ℤ → ℕ
size (pos n) = n
size (negsuc n) = n

module _ (l : WeightedList Memory) (d : ℕ) (event : Memory → Bool) where
  pub chance_one : (compares Equal (chance l d event) (pos 1, 1) ≡ true) ↔ (weight l event ≡ d)
  chance_one = (
    λ h. from (ap size ((Decides-int_eq (pos (weight l event * 1)) (pos (1 * d))).0 h)),
    λ e. (Decides-int_eq (pos (weight l event * 1)) (pos (1 * d))).1 (ap pos (back e)),
  )
    where
      from : weight l event * 1 ≡ 1 * d → weight l event ≡ d
      from e = omega (arith, e)

      back : weight l event ≡ d → weight l event * 1 ≡ 1 * d
      back e = omega (arith, e)

  pub chance_at_least_one : total l ≤ d → (compares AtLeast (chance l d event) (pos 1, 1) ≡ true) ↔ (weight l event ≡ d)
  chance_at_least_one t = (
    λ h. from (leb-true (1 * d) (weight l event * 1) h) (weight-le_total l event),
    λ e. le-leb (1 * d) (weight l event * 1) (omega (arith, e)),
  )
    where
      from : 1 * d ≤ weight l event * 1 → weight l event ≤ total l → weight l event ≡ d
      from a b = omega (arith, a, b, t)

  pub chance_zero : (compares AtMost (chance l d event) (pos 0, 1) ≡ true) ↔ (weight l event ≡ 0)
  chance_zero = (
    λ h. from (leb-true (weight l event * 1) (0 * d) h),
    λ e. le-leb (weight l event * 1) (0 * d) (omega (arith, e)),
  )
    where
      from : weight l event * 1 ≤ 0 * d → weight l event ≡ 0
      from a = omega (arith, a)

  pub certain_everywhere : IsPositive l → total l ≤ d → (weight l event ≡ d) ↔ ((total l ≡ d) × Every (λ m. event m ≡ true) l)
  certain_everywhere p t = (
    λ e. (omega (arith, e, t, weight-le_total l event), Every-weaken {P = λ m. not (event m) ≡ false} l (λ m h. truth_of (event m) h) (weightless l (λ m. not (event m)) p (none e))),
    λ h. weight-every l event (λ m. true) h.1 ∙ h.0,
  )
    where
      truth_of : (b : Bool) → not b ≡ false → b ≡ true
      truth_of true h = refl
      truth_of false h = absurd (false≢true (sym h))

      none : weight l event ≡ d → weight l (λ m. not (event m)) ≡ 0
      none e = omega (arith, e, t, weight-not l event)
