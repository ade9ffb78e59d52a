-- What a coupling says of functions and events of its two lists.
use Rattle.std.proofs.Common.{◌≡◌, ℕ, ◌+◌, ◌*◌, ◌≤◌, Bool, true, false, refl, ap, arith, le_of_mul-le-mul_right, mul-le-mul_left}
use Rattle.std.proofs.Math.Nat.{eq_of_mul-eq-mul_right}
use Rattle.gb_dist.specs.WeightedList.{WeightedList, mass, bit, weight}
use Rattle.gb_dist.specs.Coupling.{Coupling}
use Rattle.gb_dist.proofs.Masses.{mass-on, mass-le, mass-plus}
use Rattle.gb_dist.proofs.Weights.{bit-le}

module _ {A B : Type 0} {Q : A → B → Type 0} {l1 : WeightedList A} {k1 : ℕ} {l2 : WeightedList B} {k2 : ℕ} (c : Coupling Q l1 k1 l2 k2) where
  -- functions in order on related outcomes
  pub coupled_masses_le : (f : A → ℕ) (g : B → ℕ) → ((a : A) (b : B) → Q a b → f a ≤ g b) → mass l1 f * k2 ≤ mass l2 g * k1
  coupled_masses_le f g h =
      le_of_mul-le-mul_right
      (omega (
        arith,
        ap (λ z. z * k2) (c.left f),
        ap (λ z. z * k1) (c.right g),
        mul-le-mul_left (k1 * k2) (mass-le {P = λ p. Q p.0 p.1} c.pairs (λ p. f p.0) (λ p. g p.1) c.related (λ p. h p.0 p.1)),
      ))
      c.positive

  -- functions that are equal on related outcomes
  pub coupled_masses : (f : A → ℕ) (g : B → ℕ) → ((a : A) (b : B) → Q a b → f a ≡ g b) → mass l1 f * k2 ≡ mass l2 g * k1
  coupled_masses f g h =
      eq_of_mul-eq-mul_right c.denominator c.positive _ _
      (omega (
        arith,
        ap (λ z. z * k2) (c.left f),
        ap (λ z. z * k1) (c.right g),
        ap (λ z. z * k1 * k2) (mass-on {P = λ p. Q p.0 p.1} c.pairs (λ p. f p.0) (λ p. g p.1) c.related (λ p. h p.0 p.1)),
      ))

  -- an event that implies another
  pub coupled_event_le : (s : A → Bool) (u : B → Bool) → ((a : A) (b : B) → Q a b → s a ≡ true → u b ≡ true) →
      weight l1 s * k2 ≤ weight l2 u * k1
  coupled_event_le s u h = coupled_masses_le (λ a. bit (s a)) (λ b. bit (u b)) (λ a b q. bit-le (s a) (u b) (h a b q))

  -- an event that is another
  pub coupled_event : (s : A → Bool) (u : B → Bool) → ((a : A) (b : B) → Q a b → s a ≡ u b) → weight l1 s * k2 ≡ weight l2 u * k1
  coupled_event s u h = coupled_masses (λ a. bit (s a)) (λ b. bit (u b)) (λ a b q. ap bit (h a b q))

  -- an event that implies another unless a bad event occurs
  pub coupled_event_up_to : (s : A → Bool) (u bad : B → Bool) →
      ((a : A) (b : B) → Q a b → bad b ≡ false → s a ≡ true → u b ≡ true) →
      weight l1 s * k2 ≤ (weight l2 u + weight l2 bad) * k1
  coupled_event_up_to s u bad h =
      omega (
        arith,
        coupled_masses_le (λ a. bit (s a)) (λ b. bit (u b) + bit (bad b)) (λ a b q. at (s a) (u b) (bad b) (h a b q)),
        ap (λ z. z * k1) (mass-plus l2 (λ b. bit (u b)) (λ b. bit (bad b))),
      )
    where
      at : (x y z : Bool) → (z ≡ false → x ≡ true → y ≡ true) → bit x ≤ bit y + bit z
      at false y z k = omega arith
      at true y true k = omega arith
      at true y false k = omega (arith, bit-le true y (λ e. k refl e))
