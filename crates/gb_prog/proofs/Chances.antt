-- Chances of events after two parts of a body, and of events that are certain or impossible.
use Rattle.std.proofs.Common.{◌≡◌, ◌<◌, ◌≤◌, ℕ, zero, suc, ◌+◌, ◌*◌, Bool, true, false, ℤ, pos, negsuc, ◌*ℤ◌, neg_ℤ, int_le, List, [], ◌∷◌, refl, ap, sym, ◌∙◌, subst, arith}
use Rattle.std.specs.Ordering.{int_eq}
use Rattle.std.proofs.lemmas.Bool.{false≢true, le-leb, leb-true}
use Rattle.std.proofs.lemmas.Bool.Decides.{Decides-int_eq}
use Rattle.gb_terms.specs.declared.op.Rel.{Rel}
use Rattle.gb_terms.specs.declared.op.Rel.TheVariants as rel
use Rattle.gb_dist.specs.WeightedList.{WeightedList, total, weight, mass, bit, bind, unit, Every}
use Rattle.gb_dist.proofs.Masses.{mass-bind_le, mass-bind_ge, mass-bind_every, mass-constant}
use Rattle.gb_dist.proofs.Weights.{weight-every, weight-false}
use Rattle.gb_meaning.specs.Fractions.{Fraction}
use Rattle.gb_meaning.specs.Memory.{Memory}
use Rattle.gb_meaning.specs.Judgments.{compares, chance}

-- comparisons with what is below 0
pub below : (x m : ℕ) → 0 < m → (int_le (pos x) (neg_ℤ (pos m)) ≡ false) × (int_le (neg_ℤ (pos m)) (pos x) ≡ true) × (int_eq (pos x) (neg_ℤ (pos m)) ≡ false)
below x zero h = absurd (none h)
  where
    none : 0 < 0 → ⊥
    none h = omega arith
below x (suc m) h = (refl, refl, refl)

pub product_positive : (a b : ℕ) → 0 < a → 0 < b → 0 < a * b
product_positive zero b h k = absurd (none h)
  where
    none : 0 < 0 → ⊥
    none h = omega arith
product_positive (suc a) b h k = omega (arith, k)

pub grown : (k x y : ℕ) → x ≤ y → k * x ≤ k * y
grown zero x y h = omega arith
grown (suc k) x y h = omega (arith, h, grown k x y h)

pub same_int : (x y : ℕ) → int_eq (pos x) (pos y) ≡ true → x ≡ y
same_int x y h = from ((Decides-int_eq (pos x) (pos y)).0 h)
  where
    size : ℤ → ℕ
    size (pos n) = n
    size (negsuc n) = n

    from : pos x ≡ pos y → x ≡ y
    from e = ap size e

-- Events after a second part, of the same chance wherever the first part ends.
module _ (l : WeightedList Memory) (k : Memory → WeightedList Memory) (event : Memory → Bool) (d e : ℕ) (p : 0 < d) (q : 0 < e) where
  abbrev Each : Rel → Fraction → Type 0
  Each r b = Every (λ a. compares r (chance (k a) e event) b ≡ true) l

  abbrev After : Rel → Fraction → Type 0
  After r b = compares r (chance (bind l k) (d * e) event) b ≡ true

  abbrev w : ℕ
  w = weight (bind l k) event

  turned : (n : ℕ) → total l ≡ d → total l * (n * e) ≡ n * (d * e)
  turned n t = ap (λ z. z * (n * e)) t ∙ swapped d n e
    where
      swapped : (x y z : ℕ) → x * (y * z) ≡ y * (x * z)
      swapped x y z = omega arith

  at_most_sum : (n b : ℕ) → Each rel.AtMost (pos n, b) → w * b ≤ total l * (n * e)
  at_most_sum n b h =
      subst (λ z. w * b ≤ z) (mass-constant l (n * e))
      (mass-bind_le {P = λ a. compares rel.AtMost (chance (k a) e event) (pos n, b) ≡ true} l k (λ x. bit (event x)) (λ a. n * e) b h (λ a x. leb-true (weight (k a) event * b) (n * e) x))

  at_least_sum : (n b : ℕ) → Each rel.AtLeast (pos n, b) → total l * (n * e) ≤ w * b
  at_least_sum n b h =
      subst (λ z. z ≤ w * b) (mass-constant l (n * e))
      (mass-bind_ge {P = λ a. compares rel.AtLeast (chance (k a) e event) (pos n, b) ≡ true} l k (λ x. bit (event x)) (λ a. n * e) b h (λ a x. leb-true (n * e) (weight (k a) event * b) x))

  equal_sum : (n b : ℕ) → Each rel.Equal (pos n, b) → w * b ≡ total l * (n * e)
  equal_sum n b h =
      mass-bind_every {P = λ a. compares rel.Equal (chance (k a) e event) (pos n, b) ≡ true} l k (λ x. bit (event x)) (λ a. n * e) b h (λ a x. same_int (weight (k a) event * b) (n * e) x)
      ∙ mass-constant l (n * e)

  -- no entry has this, since there is one
  no_entry : (P : Memory → Type 0) → total l ≡ d → ((a : Memory) → P a → ⊥) → Every P l → ⊥
  no_entry P t none h = from l t h
    where
      from : (l : WeightedList Memory) → total l ≡ d → Every P l → ⊥
      from [] t h = nothing (subst (λ z. 0 < z) (sym t) p)
        where
          nothing : 0 < 0 → ⊥
          nothing h = omega arith
      from (x ∷ l) t h = none x.0 h.0

  -- where the first part loses no weight
  pub after_full : total l ≡ d → (r : Rel) (b : Fraction) → Each r b → After r b
  after_full t rel.AtMost (pos n, b) h = le-leb (w * b) (n * (d * e)) (subst (λ z. w * b ≤ z) (turned n t) (at_most_sum n b h))
  after_full t rel.AtLeast (pos n, b) h = le-leb (n * (d * e)) (w * b) (subst (λ z. z ≤ w * b) (turned n t) (at_least_sum n b h))
  after_full t rel.Equal (pos n, b) h = (Decides-int_eq (pos (w * b)) (pos (n * (d * e)))).1 (ap pos (equal_sum n b h ∙ turned n t))
  after_full t rel.AtMost (negsuc n, b) h =
      absurd (no_entry (λ a. compares rel.AtMost (chance (k a) e event) (negsuc n, b) ≡ true) t
      (λ a x. false≢true (sym (below (weight (k a) event * b) (suc n * e) (product_positive (suc n) e (omega arith) q)).0 ∙ x)) h)
  after_full t rel.AtLeast (negsuc n, b) h = (below (w * b) (suc n * (d * e)) (product_positive (suc n) (d * e) (omega arith) (product_positive d e p q))).1
  after_full t rel.Equal (negsuc n, b) h =
      absurd (no_entry (λ a. compares rel.Equal (chance (k a) e event) (negsuc n, b) ≡ true) t
      (λ a x. false≢true (sym (below (weight (k a) event * b) (suc n * e) (product_positive (suc n) e (omega arith) q)).2 ∙ x)) h)

  -- where it may lose some, and the bound isn't below 0
  pub after_less : total l ≤ d → (b : Fraction) → compares rel.AtMost (pos 0, 1) b ≡ true → Each rel.AtMost b → After rel.AtMost b
  after_less t (pos n, b) z h = le-leb (w * b) (n * (d * e)) (through (w * b) (total l) n d (at_most_sum n b h) t)
    where
      through : (x y n d : ℕ) → x ≤ y * (n * e) → y ≤ d → x ≤ n * (d * e)
      through x y n d f t =
          let a : y * (n * e) ≡ (n * e) * y = omega arith in
          let c : (n * e) * d ≡ n * (d * e) = omega arith in
          subst (λ z. x ≤ z) c (omega (arith, subst (λ z. x ≤ z) a f, grown (n * e) y d t))
  after_less t (negsuc n, b) z h = absurd (false≢true (sym (below (0 * b) (suc n * 1) (omega arith)).0 ∙ z))

-- Events that are certain, or impossible.
module _ (l : WeightedList Memory) (d : ℕ) (event : Memory → Bool) where
  all_weight : total l ≡ d → Every (λ m. event m ≡ true) l → weight l event ≡ d
  all_weight t h = weight-every l event (λ m. true) h ∙ t

  no_weight : Every (λ m. event m ≡ false) l → weight l event ≡ 0
  no_weight h = weight-every l event (λ m. false) h ∙ weight-false l

  pub certain : total l ≡ d → Every (λ m. event m ≡ true) l → compares rel.Equal (chance l d event) (pos 1, 1) ≡ true
  certain t h = (Decides-int_eq (pos (weight l event * 1)) (pos (1 * d))).1 (ap pos (back (all_weight t h)))
    where
      back : weight l event ≡ d → weight l event * 1 ≡ 1 * d
      back e = omega (arith, e)

  pub impossible : Every (λ m. event m ≡ false) l → compares rel.Equal (chance l d event) (pos 0, 1) ≡ true
  impossible h = (Decides-int_eq (pos (weight l event * 1)) (pos (0 * d))).1 (ap pos (back (no_weight h)))
    where
      back : weight l event ≡ 0 → weight l event * 1 ≡ 0 * d
      back e = omega (arith, e)

  pub at_least_certain : 0 < d → total l ≡ d → Every (λ m. event m ≡ true) l → (b : Fraction) → compares rel.AtMost b (pos 1, 1) ≡ true → compares rel.AtLeast (chance l d event) b ≡ true
  at_least_certain p t h (pos n, b) z = le-leb (n * d) (weight l event * b) (within (weight l event) (all_weight t h) (leb-true (n * 1) (1 * b) z))
    where
      within : (x : ℕ) → x ≡ d → n * 1 ≤ 1 * b → n * d ≤ x * b
      within x e f =
          let a : d * n ≡ n * d = omega arith in
          subst (λ z. n * d ≤ z * b) (sym e) (subst (λ z. z ≤ d * b) a (grown d n b (omega (arith, f))))
  at_least_certain p t h (negsuc n, b) z = (below (weight l event * b) (suc n * d) (product_positive (suc n) d (omega arith) p)).1

  pub at_most_impossible : Every (λ m. event m ≡ false) l → (b : Fraction) → compares rel.AtMost (pos 0, 1) b ≡ true → compares rel.AtMost (chance l d event) b ≡ true
  at_most_impossible h (pos n, b) z = le-leb (weight l event * b) (n * d) (within (weight l event) (no_weight h))
    where
      within : (x : ℕ) → x ≡ 0 → x * b ≤ n * d
      within x e = subst (λ z. z * b ≤ n * d) (sym e) (omega arith)
  at_most_impossible h (negsuc n, b) z = absurd (false≢true (sym (below (0 * b) (suc n * 1) (omega arith)).0 ∙ z))

-- an event after nothing
pub after_nothing : (m : Memory) (event : Memory → Bool) (r : Rel) (b : Fraction) → (event m ≡ true → compares r (pos 1, 1) b ≡ true) → (event m ≡ false → compares r (pos 0, 1) b ≡ true) →
    compares r (chance (unit m) 1 event) b ≡ true
after_nothing m event r b so not_so = by_event (event m) refl
  where
    by_event : (v : Bool) → event m ≡ v → compares r (chance (unit m) 1 event) b ≡ true
    by_event true e = ap (λ v. compares r (pos (1 * bit v + 0), 1) b) e ∙ so e
    by_event false e = ap (λ v. compares r (pos (1 * bit v + 0), 1) b) e ∙ not_so e
