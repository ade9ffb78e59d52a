-- Two couplings over a common middle list.
use Rattle.std.proofs.Common.{◌≡◌, ℕ, zero, suc, ◌+◌, ◌*◌, ◌<◌, [], ◌∷◌, refl, ap, sym, ◌∙◌, subst, arith}
use Rattle.std.proofs.Math.Nat.{mul-pos, mul_comm, eq_of_mul-eq-mul_right}
use Rattle.gb_dist.specs.WeightedList.{WeightedList, mass, total, bit_of_decision, indicator, scale, bind, dmap, On}
use Rattle.gb_dist.specs.Coupling.{Coupling}
use Rattle.gb_dist.proofs.Masses.{mass-scale, mass-bind, mass-dmap, mass-times, mass-same, mass-on}
use Rattle.gb_dist.proofs.Entries.{On-scale, On-bind, On-dmap, On-weaken, On-positive}
use Rattle.gb_dist.proofs.Indicators.{On-key}
use Rattle.gb_dist.proofs.Regroup.{factorial, factorial_pos, quotient_pos, weight_at_key, factor, factor-mul, regroup}

-- a product of positive numbers has positive factors
pub factor_pos : (x a y b : ℕ) → x * a ≡ y * b → 0 < x → 0 < a → 0 < y
factor_pos x a zero b e p q = absurd (let r : 0 < x * a = mul-pos p q in omega arith)
factor_pos x a (suc y) b e p q = omega arith

module _ {B : Type 0} (d : Discrete B) where
  abbrev also_if : {C : Type 0} {y x : B} → Dec (y ≡ x) → C × ℕ → WeightedList C → WeightedList C
  also_if (yes p) e l = e ∷ l
  also_if (no n) e l = l

  -- what stands beside y
  abbrev beside : {C : Type 0} → B → WeightedList (B × C) → WeightedList C
  beside y [] = []
  beside y (e ∷ l) = also_if (d y e.0.0) (e.0.1, e.1) (beside y l)

  mass-beside : {C : Type 0} (y : B) (l : WeightedList (B × C)) (f : C → ℕ) →
      mass (beside y l) f ≡ mass l (λ q. indicator d y q.0 * f q.1)
  mass-beside y [] f = refl
  mass-beside y (e ∷ l) f = step (mass-beside y l f) (d y e.0.0)
    where
      step : mass (beside y l) f ≡ mass l (λ q. indicator d y q.0 * f q.1) → (v : Dec (y ≡ e.0.0)) →
          mass (also_if v (e.0.1, e.1) (beside y l)) f ≡ e.1 * (bit_of_decision v * f e.0.1) + mass l (λ q. indicator d y q.0 * f q.1)
      step h (yes p) = omega arith
      step h (no n) = omega arith

  On-beside : {C : Type 0} (P : B → C → Type 0) (y : B) (l : WeightedList (B × C)) → On (λ q. P q.0 q.1) l → On (P y) (beside y l)
  On-beside P y [] o = tt
  On-beside P y (e ∷ l) o = step (On-beside P y l o.2) (d y e.0.0)
    where
      step : On (P y) (beside y l) → (v : Dec (y ≡ e.0.0)) → On (P y) (also_if v (e.0.1, e.1) (beside y l))
      step h (yes p) = (o.0, subst (λ z. P z e.0.1) (sym p) o.1, h)
      step h (no n) = h

  -- the outcomes at the two ends are joined by one in the middle
  pub coupling_gluing : {A C : Type 0} (Q : A → B → Type 0) (R : B → C → Type 0) {l1 : WeightedList A} {k1 : ℕ} {l2 : WeightedList B} {k2 : ℕ}
      {l3 : WeightedList C} {k3 : ℕ} → 0 < k2 → Coupling Q l1 k1 l2 k2 → Coupling R l2 k2 l3 k3 →
      Coupling (λ a z. (y : B) × Q a y × R y z) l1 k1 l3 k3
  coupling_gluing {A} {C} Q R {l1} {k1} {l2} {k2} {l3} {k3} h c1 c2 = record {
    denominator = c1.denominator * n;
    positive = mul-pos c1.positive (factorial_pos (total c2.pairs));
    pairs = bind c1.pairs row;
    related = On-bind (λ p. Q p.0 p.1) (λ p. (y : B) × Q p.0 y × R y p.1) c1.pairs row c1.related
        (λ p q. On-dmap {P = R p.1} (λ t. (y : B) × Q t.0 y × R y t.1) (λ z. (p.0, z)) (scale (r p.1) (beside p.1 c2.pairs)) (λ z s. (p.1, q, s))
        (On-scale (R p.1) (r p.1) (beside p.1 c2.pairs) (quotient_pos (total c2.pairs) (m p.1)) (On-beside R p.1 c2.pairs c2.related)));
    left = λ f. omega (arith, ap (λ z. z * k1) (firsts f), ap (λ z. z * n) (c1.left f));
    right = λ f. eq_of_mul-eq-mul_right (k2 * c2.denominator) (mul-pos h c2.positive) _ _
        (omega (
          arith,
          ap (λ z. z * k2 * c2.denominator * k3) (seconds f),
          ap (λ z. z * c2.denominator * k3) (c1.right (share f)),
          ap (λ z. z * c1.denominator * k3) (c2.left (share f)),
          ap (λ z. z * k2 * c1.denominator * k3) (shares f),
          ap (λ z. z * n * k2 * c1.denominator) (c2.right f),
        ));
  }
    where
      n : ℕ
      n = factorial (total c2.pairs)

      positive : On (λ q. Unit {0}) c2.pairs
      positive = On-positive (λ q. R q.0 q.1) c2.pairs c2.related

      -- the weight of the second coupling at y, and the factor for it
      m : B → ℕ
      m y = weight_at_key d c2.pairs positive (λ q. q.0) y

      r : B → ℕ
      r y = factor d c2.pairs positive (λ q. q.0) y

      row : A × B → WeightedList (A × C)
      row p = dmap (λ z. (p.0, z)) (scale (r p.1) (beside p.1 c2.pairs))

      mass-row : (p : A × B) (f : A × C → ℕ) → mass (row p) f ≡ r p.1 * mass c2.pairs (λ q. indicator d p.1 q.0 * f (p.0, q.1))
      mass-row p f =
          mass-dmap (λ z. (p.0, z)) (scale (r p.1) (beside p.1 c2.pairs)) f
          ∙ mass-scale (r p.1) (beside p.1 c2.pairs) (λ z. f (p.0, z))
          ∙ ap (λ x. r p.1 * x) (mass-beside p.1 c2.pairs (λ z. f (p.0, z)))

      share : (C → ℕ) → B → ℕ
      share f y = r y * mass c2.pairs (λ q. indicator d y q.0 * f q.1)

      shares : (f : C → ℕ) → mass c2.pairs (λ q. share f q.0) ≡ n * mass c2.pairs (λ q. f q.1)
      shares f = regroup d c2.pairs positive (λ q. q.0) c2.pairs (λ q. q.0) (λ q. f q.1)
          (On-weaken {P = λ q. R q.0 q.1 × (0 < m q.0)} {Q = λ q. 0 < m q.0} c2.pairs (λ q o. o.1)
          (On-key d (λ q. R q.0 q.1) c2.pairs (λ q. q.0) c2.related))

      seconds : (f : C → ℕ) → mass (bind c1.pairs row) (λ p. f p.1) ≡ mass c1.pairs (λ p. share f p.1)
      seconds f = mass-bind c1.pairs row (λ p. f p.1) ∙ mass-same c1.pairs _ _ (λ p. mass-row p (λ t. f t.1))

      -- what the first coupling has in the middle the second has there too
      in_middle : (y : B) → 0 < mass c1.pairs (λ q. indicator d y q.1) → 0 < m y
      in_middle y p =
          factor_pos _ (k2 * c2.denominator) _ (k2 * c1.denominator)
          (omega (arith, ap (λ z. z * c2.denominator) (c1.right (indicator d y)), ap (λ z. z * c1.denominator) (c2.left (indicator d y))))
          p (mul-pos h c2.positive)

      firsts : (f : A → ℕ) → mass (bind c1.pairs row) (λ p. f p.0) ≡ n * mass c1.pairs (λ p. f p.0)
      firsts f =
          mass-bind c1.pairs row (λ p. f p.0)
          ∙ mass-on {P = λ p. Q p.0 p.1 × (0 < mass c1.pairs (λ q. indicator d p.1 q.1))} c1.pairs (λ p. mass (row p) (λ t. f t.0)) (λ p. n * f p.0)
          (On-key d (λ q. Q q.0 q.1) c1.pairs (λ q. q.1) c1.related)
          (λ p o. mass-row p (λ t. f t.0)
          ∙ ap (λ x. r p.1 * x) (mass-same c2.pairs _ _ (λ q. mul_comm (indicator d p.1 q.0) (f p.0)) ∙ mass-times (f p.0) c2.pairs (λ q. indicator d p.1 q.0))
          ∙ omega (arith, ap (λ z. z * f p.0) (factor-mul d c2.pairs positive (λ q. q.0) p.1 (in_middle p.1 o.1))))
          ∙ mass-times n c1.pairs (λ p. f p.0)
