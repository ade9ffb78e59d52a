-- Lists with the same weight at each outcome have the same sum of every function, so both forms of a coupling are one.
use Rattle.std.proofs.Common.{◌≡◌, ℕ, zero, suc, ◌+◌, ◌*◌, ◌≤◌, [], ◌∷◌, length, refl, ap, arith}
use Rattle.gb_dist.specs.WeightedList.{WeightedList, mass, bit_of_decision, indicator, weight_at, dmap}
use Rattle.gb_dist.specs.Coupling.{Coupling, PointwiseCoupling}
use Rattle.gb_dist.proofs.Masses.{mass-dmap}

abbrev unless : {A : Type 0} {x y : A} → Dec (x ≡ y) → A × ℕ → WeightedList A → WeightedList A
unless (yes p) e l = l
unless (no n) e l = e ∷ l

module _ {A : Type 0} (d : Discrete A) where
  -- the entries with other outcomes than x
  abbrev without : A → WeightedList A → WeightedList A
  without x [] = []
  without x (e ∷ l) = unless (d x e.0) e (without x l)

  mass-without : (x : A) (l : WeightedList A) (f : A → ℕ) → mass l f ≡ weight_at d l x * f x + mass (without x l) f
  mass-without x [] f = omega arith
  mass-without x (e ∷ l) f = step (d x e.0) (mass-without x l f)
    where
      step : (v : Dec (x ≡ e.0)) → mass l f ≡ weight_at d l x * f x + mass (without x l) f →
          e.1 * f e.0 + mass l f ≡ (e.1 * bit_of_decision v + weight_at d l x) * f x + mass (unless v e (without x l)) f
      step (yes p) h = omega (arith, h, ap (λ z. e.1 * f z) p)
      step (no n) h = omega (arith, h)

  length-without : (x : A) (l : WeightedList A) → length (without x l) ≤ length l
  length-without x [] = omega arith
  length-without x (e ∷ l) = step (d x e.0) (length-without x l)
    where
      step : (v : Dec (x ≡ e.0)) → length (without x l) ≤ length l → length (unless v e (without x l)) ≤ suc (length l)
      step (yes p) h = omega arith
      step (no n) h = omega arith

  length-without_first : (e : A × ℕ) (l : WeightedList A) → length (without e.0 (e ∷ l)) ≤ length l
  length-without_first e l = step (d e.0 e.0)
    where
      step : (v : Dec (e.0 ≡ e.0)) → length (unless v e (without e.0 l)) ≤ length l
      step (yes p) = length-without e.0 l
      step (no n) = absurd (n refl)

  module _ (a b : ℕ) (f : A → ℕ) where
    SameWeights : WeightedList A → WeightedList A → Type 0
    SameWeights l r = (x : A) → weight_at d l x * a ≡ weight_at d r x * b

    -- the outcome x taken away from both lists
    reduce : (x : A) (l r : WeightedList A) → SameWeights l r →
        (SameWeights (without x l) (without x r) → mass (without x l) f * a ≡ mass (without x r) f * b) → mass l f * a ≡ mass r f * b
    unfolding SameWeights
    reduce x l r h k =
        omega (arith, ap (λ z. z * f x) (h x), ap (λ z. z * a) (mass-without x l f), ap (λ z. z * b) (mass-without x r f), k rest)
      where
        rest : (y : A) → weight_at d (without x l) y * a ≡ weight_at d (without x r) y * b
        rest y =
            omega (
              arith,
              h y,
              ap (λ z. z * indicator d y x) (h x),
              ap (λ z. z * a) (mass-without x l (indicator d y)),
              ap (λ z. z * b) (mass-without x r (indicator d y)),
            )

    up_to_length : (n : ℕ) (l r : WeightedList A) → length l + length r ≤ n → SameWeights l r → mass l f * a ≡ mass r f * b
    unfolding SameWeights
    up_to_length n [] [] t h = omega arith
    up_to_length zero [] (e ∷ r) t h = absurd (omega arith)
    up_to_length zero (e ∷ l) r t h = absurd (omega arith)
    up_to_length (suc n) [] (e ∷ r) t h =
        reduce e.0 [] (e ∷ r) h (up_to_length n [] (without e.0 (e ∷ r)) (omega (arith, length-without_first e r)))
    up_to_length (suc n) (e ∷ l) r t h =
        reduce e.0 (e ∷ l) r h (up_to_length n (without e.0 (e ∷ l)) (without e.0 r) (omega (arith, length-without_first e l, length-without e.0 r)))

    pub mass_of_weights : (l r : WeightedList A) → ((x : A) → weight_at d l x * a ≡ weight_at d r x * b) →
        mass l f * a ≡ mass r f * b
    unfolding SameWeights
    mass_of_weights l r h = up_to_length (length l + length r) l r (omega arith) h

-- the same where the outcomes of one list are read through a key
pub mass_of_keys : {A C : Type 0} (d : Discrete A) (a b : ℕ) (c : WeightedList C) (key : C → A) (l : WeightedList A) →
    ((x : A) → mass c (λ p. indicator d x (key p)) * a ≡ weight_at d l x * b) → (f : A → ℕ) → mass c (λ p. f (key p)) * a ≡ mass l f * b
mass_of_keys d a b c key l h f =
    omega (
      arith,
      ap (λ z. z * a) (mass-dmap key c f),
      mass_of_weights d a b f (dmap key c) l (λ x. omega (arith, h x, ap (λ z. z * a) (mass-dmap key c (indicator d x)))),
    )

pub pointwise_of_coupling : {A B : Type 0} (da : Discrete A) (db : Discrete B) {Q : A → B → Type 0}
    {l1 : WeightedList A} {k1 : ℕ} {l2 : WeightedList B} {k2 : ℕ} → Coupling Q l1 k1 l2 k2 → PointwiseCoupling da db Q l1 k1 l2 k2
pointwise_of_coupling da db c = record {
  denominator = c.denominator;
  positive = c.positive;
  pairs = c.pairs;
  related = c.related;
  left = λ x. c.left (indicator da x);
  right = λ y. c.right (indicator db y);
}

pub coupling_of_pointwise : {A B : Type 0} (da : Discrete A) (db : Discrete B) {Q : A → B → Type 0}
    {l1 : WeightedList A} {k1 : ℕ} {l2 : WeightedList B} {k2 : ℕ} → PointwiseCoupling da db Q l1 k1 l2 k2 → Coupling Q l1 k1 l2 k2
coupling_of_pointwise da db {Q} {l1} {k1} {l2} {k2} c = record {
  denominator = c.denominator;
  positive = c.positive;
  pairs = c.pairs;
  related = c.related;
  left = mass_of_keys da k1 c.denominator c.pairs (λ p. p.0) l1 c.left;
  right = mass_of_keys db k2 c.denominator c.pairs (λ p. p.1) l2 c.right;
}
