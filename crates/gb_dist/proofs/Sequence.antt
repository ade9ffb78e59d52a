-- Couplings one after the other.
use Rattle.std.proofs.Common.{◌≡◌, ℕ, ◌+◌, ◌*◌, ◌<◌, [], ◌∷◌, ◌++◌, ap, arith}
use Rattle.std.proofs.Math.Nat.{mul-pos}
use Rattle.gb_dist.specs.WeightedList.{WeightedList, mass, scale, bind, On}
use Rattle.gb_dist.specs.Coupling.{Coupling}
use Rattle.gb_dist.proofs.Masses.{mass-append, mass-scale, mass-bind}
use Rattle.gb_dist.proofs.Entries.{On-append, On-scale, On-weaken}

module _ {A B C D : Type 0} (Q : C → D → Type 0) (m1 : A → WeightedList C) (k1 : ℕ) (m2 : B → WeightedList D) (k2 : ℕ) where
  -- one coupling for what follows the pairs of a list
  record Following (c : WeightedList (A × B)) : Type 0 where
    denominator : ℕ
    positive : 0 < denominator
    pairs : WeightedList (C × D)
    related : On (λ p. Q p.0 p.1) pairs
    left : (f : C → ℕ) → mass pairs (λ p. f p.0) * k1 ≡ mass c (λ p. mass (m1 p.0) f) * denominator
    right : (f : D → ℕ) → mass pairs (λ p. f p.1) * k2 ≡ mass c (λ p. mass (m2 p.1) f) * denominator

  one_more : (e : (A × B) × ℕ) (c : WeightedList (A × B)) → 0 < e.1 → Coupling Q (m1 e.0.0) k1 (m2 e.0.1) k2 → Following c →
      Following (e ∷ c)
  one_more e c w first rest = record {
    denominator = first.denominator * rest.denominator;
    positive = mul-pos first.positive rest.positive;
    pairs = pairs;
    related = On-append (λ p. Q p.0 p.1) (scale (e.1 * rest.denominator) first.pairs) (scale first.denominator rest.pairs)
        (On-scale (λ p. Q p.0 p.1) (e.1 * rest.denominator) first.pairs (mul-pos w rest.positive) first.related)
        (On-scale (λ p. Q p.0 p.1) first.denominator rest.pairs first.positive rest.related);
    left = λ f. sums k1 (λ p. f p.0) (mass (m1 e.0.0) f) (mass c (λ p. mass (m1 p.0) f)) (first.left f) (rest.left f);
    right = λ f. sums k2 (λ p. f p.1) (mass (m2 e.0.1) f) (mass c (λ p. mass (m2 p.1) f)) (first.right f) (rest.right f);
  }
    where
      pairs : WeightedList (C × D)
      pairs = scale (e.1 * rest.denominator) first.pairs ++ scale first.denominator rest.pairs

      sums : (k : ℕ) (f : C × D → ℕ) (x y : ℕ) → mass first.pairs f * k ≡ x * first.denominator →
          mass rest.pairs f * k ≡ y * rest.denominator →
          mass pairs f * k ≡ (e.1 * x + y) * (first.denominator * rest.denominator)
      sums k f x y p q =
          omega (
            arith,
            ap (λ z. z * k) (mass-append (scale (e.1 * rest.denominator) first.pairs) (scale first.denominator rest.pairs) f),
            ap (λ z. z * k) (mass-scale (e.1 * rest.denominator) first.pairs f),
            ap (λ z. z * k) (mass-scale first.denominator rest.pairs f),
            ap (λ z. e.1 * rest.denominator * z) p,
            ap (λ z. first.denominator * z) q,
          )

  following : (c : WeightedList (A × B)) → On (λ p. Coupling Q (m1 p.0) k1 (m2 p.1) k2) c → Following c
  following [] o =
      record { denominator = 1; positive = omega arith; pairs = []; related = tt; left = λ f. omega arith; right = λ f. omega arith }
  following (e ∷ c) o = one_more e c o.0 o.1 (following c o.2)

  -- a coupling, and a coupling of what follows each of its pairs
  pub coupling_sequence_on : {R : A → B → Type 0} {l1 : WeightedList A} {j1 : ℕ} {l2 : WeightedList B} {j2 : ℕ} (c : Coupling R l1 j1 l2 j2) →
      On (λ p. Coupling Q (m1 p.0) k1 (m2 p.1) k2) c.pairs → Coupling Q (bind l1 m1) (j1 * k1) (bind l2 m2) (j2 * k2)
  coupling_sequence_on {R} {l1} {j1} {l2} {j2} c o = join (following c.pairs o)
    where
      join : Following c.pairs → Coupling Q (bind l1 m1) (j1 * k1) (bind l2 m2) (j2 * k2)
      join s = record {
        denominator = c.denominator * s.denominator;
        positive = mul-pos c.positive s.positive;
        pairs = s.pairs;
        related = s.related;
        left = λ f.
            omega (
              arith,
              ap (λ z. z * j1) (s.left f),
              ap (λ z. z * s.denominator) (c.left (λ a. mass (m1 a) f)),
              ap (λ z. z * (c.denominator * s.denominator)) (mass-bind l1 m1 f),
            );
        right = λ f.
            omega (
              arith,
              ap (λ z. z * j2) (s.right f),
              ap (λ z. z * s.denominator) (c.right (λ b. mass (m2 b) f)),
              ap (λ z. z * (c.denominator * s.denominator)) (mass-bind l2 m2 f),
            );
      }

  -- the same from each related pair
  pub coupling_sequence : (R : A → B → Type 0) {l1 : WeightedList A} {j1 : ℕ} {l2 : WeightedList B} {j2 : ℕ} →
      Coupling R l1 j1 l2 j2 →
      ((a : A) (b : B) → R a b → Coupling Q (m1 a) k1 (m2 b) k2) → Coupling Q (bind l1 m1) (j1 * k1) (bind l2 m2) (j2 * k2)
  coupling_sequence R c h =
      coupling_sequence_on c (On-weaken {P = λ p. R p.0 p.1} {Q = λ p. Coupling Q (m1 p.0) k1 (m2 p.1) k2} c.pairs (λ p. h p.0 p.1) c.related)
