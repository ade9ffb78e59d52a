-- The chance of an event is the same at each scale.
use Rattle.std.proofs.Common.{◌≡◌, ℕ, zero, suc, ◌*◌, ◌<◌, ◌≤◌, Bool, true, false, cond, leb, ltb, ℤ, pos, negsuc, ◌*ℤ◌, neg_ℤ, int_le, is_eq, Less, Greater, Equal, refl, ap, sym, ◌∙◌, arith}
use Rattle.std.specs.Ordering.{int_eq}
use Rattle.std.proofs.lemmas.Bool.{le-leb, leb-true, leb-false, lt-leb, lt-ltb, ltb-true, ltb-false, le-ltb}
use Rattle.gb_terms.specs.declared.op.Rel.{Rel}
use Rattle.gb_terms.specs.declared.op.Rel.TheVariants as rel
use Rattle.gb_dist.specs.WeightedList.{WeightedList, weight, bit, scale}
use Rattle.gb_dist.proofs.Masses.{mass-scale}
use Rattle.gb_meaning.specs.Fractions.{Fraction}
use Rattle.gb_meaning.specs.Memory.{Memory}
use Rattle.gb_meaning.specs.Judgments.{compares, chance}

at_most_grown : (k x y : ℕ) → x ≤ y → k * x ≤ k * y
at_most_grown zero x y h = omega arith
at_most_grown (suc k) x y h = omega (arith, h, at_most_grown k x y h)

below_grown : (k x y : ℕ) → 0 < k → x < y → k * x < k * y
below_grown zero x y p h = omega (arith, p)
below_grown (suc k) x y p h = omega (arith, h, at_most_grown k x y (omega (arith, h)))

leb_grown : (k x y : ℕ) → 0 < k → leb (k * x) (k * y) ≡ leb x y
leb_grown k x y p = by_test (leb x y) refl
  where
    by_test : (b : Bool) → leb x y ≡ b → leb (k * x) (k * y) ≡ leb x y
    by_test true e = le-leb (k * x) (k * y) (at_most_grown k x y (leb-true x y e)) ∙ sym e
    by_test false e = lt-leb (k * x) (k * y) (below_grown k y x p (leb-false x y e)) ∙ sym e

ltb_grown : (k x y : ℕ) → 0 < k → ltb (k * x) (k * y) ≡ ltb x y
ltb_grown k x y p = by_test (ltb x y) refl
  where
    by_test : (b : Bool) → ltb x y ≡ b → ltb (k * x) (k * y) ≡ ltb x y
    by_test true e = lt-ltb (k * x) (k * y) (below_grown k x y p (ltb-true x y e)) ∙ sym e
    by_test false e = le-ltb (k * x) (k * y) (at_most_grown k y x (ltb-false x y e)) ∙ sym e

abbrev scaled : ℕ → ℤ → ℤ
scaled k (pos n) = pos (k * n)
scaled k (negsuc n) = neg_ℤ (pos (k * suc n))

negated : (k m : ℕ) → neg_ℤ (pos (k * m)) ≡ scaled k (neg_ℤ (pos m))
negated k zero = ap (λ n. neg_ℤ (pos n)) zeroed ∙ ap pos (sym zeroed)
  where
    zeroed : k * zero ≡ zero
    zeroed = omega arith
negated k (suc m) = refl

product_scaled : (k : ℕ) (z : ℤ) (d : ℕ) → z *ℤ pos (k * d) ≡ scaled k (z *ℤ pos d)
product_scaled k (pos b) d = ap pos (turned b k d)
  where
    turned : (x y z : ℕ) → x * (y * z) ≡ y * (x * z)
    turned x y z = omega arith
product_scaled k (negsuc b) d = ap (λ n. neg_ℤ (pos n)) (turned (suc b) k d) ∙ negated k (suc b * d)
  where
    turned : (x y z : ℕ) → x * (y * z) ≡ y * (x * z)
    turned x y z = omega arith

-- comparisons with what is below 0
above : (x m : ℕ) → 0 < m → (int_le (pos x) (neg_ℤ (pos m)) ≡ false) × (int_le (neg_ℤ (pos m)) (pos x) ≡ true) × (int_eq (pos x) (neg_ℤ (pos m)) ≡ false)
above x zero h = absurd (nothing_below h)
  where
    nothing_below : 0 < 0 → ⊥
    nothing_below h = omega arith
above x (suc m) h = (refl, refl, refl)

module _ (k : ℕ) (p : 0 < k) (x : ℕ) where
  at_most : (t : ℤ) → int_le (pos (k * x)) (scaled k t) ≡ int_le (pos x) t
  at_most (pos y) = leb_grown k x y p
  at_most (negsuc y) = (above (k * x) (k * suc y) (omega (arith, below_grown k 0 (suc y) p (omega arith)))).0

  at_least : (t : ℤ) → int_le (scaled k t) (pos (k * x)) ≡ int_le t (pos x)
  at_least (pos y) = leb_grown k y x p
  at_least (negsuc y) = (above (k * x) (k * suc y) (omega (arith, below_grown k 0 (suc y) p (omega arith)))).1

  same : (t : ℤ) → int_eq (pos (k * x)) (scaled k t) ≡ int_eq (pos x) t
  same (pos y) = λ i. is_eq (cond (ltb_grown k x y p i) Less (cond (ltb_grown k y x p i) Greater Equal))
  same (negsuc y) = (above (k * x) (k * suc y) (omega (arith, below_grown k 0 (suc y) p (omega arith)))).2

module _ (k : ℕ) (p : 0 < k) (l : WeightedList Memory) (d : ℕ) (event : Memory → Bool) where
  -- a chance compares at each scale as it does
  pub chance_scaled : (r : Rel) (b : Fraction) → compares r (chance (scale k l) (k * d) event) b ≡ compares r (chance l d event) b
  chance_scaled r b = by_relation r
    where
      w : ℕ
      w = weight l event

      one : pos (weight (scale k l) event) *ℤ pos b.1 ≡ pos (k * (w * b.1))
      one = ap (λ n. pos (n * b.1)) (mass-scale k l (λ a. bit (event a))) ∙ ap pos (turned k w b.1)
        where
          turned : (x y z : ℕ) → x * y * z ≡ x * (y * z)
          turned x y z = omega arith

      by_relation : (r : Rel) → compares r (chance (scale k l) (k * d) event) b ≡ compares r (chance l d event) b
      by_relation rel.AtMost = (λ i. int_le (one i) (product_scaled k b.0 d i)) ∙ at_most k p (w * b.1) (b.0 *ℤ pos d)
      by_relation rel.Equal = (λ i. int_eq (one i) (product_scaled k b.0 d i)) ∙ same k p (w * b.1) (b.0 *ℤ pos d)
      by_relation rel.AtLeast = (λ i. int_le (product_scaled k b.0 d i) (one i)) ∙ at_least k p (w * b.1) (b.0 *ℤ pos d)
