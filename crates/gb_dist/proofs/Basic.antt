-- The laws of couplings that need no search for pairs: identity, symmetry, weakening, functions of outcomes, other scales, products.
use Rattle.std.proofs.Common.{◌≡◌, ℕ, zero, suc, ◌*◌, ◌<◌, inl, inr, [], refl, ap, sym, ◌∙◌, subst, arith, eq-zero-or-pos}
use Rattle.std.proofs.Math.Nat.{mul-pos, eq_of_mul-eq-mul_right}
use Rattle.gb_dist.specs.WeightedList.{WeightedList, mass, total, scale, bind, dmap, unit, On, SameDistribution}
use Rattle.gb_dist.specs.Coupling.{Coupling}
use Rattle.gb_dist.proofs.Masses.{mass-bind, mass-dmap, mass-scale, mass-times, mass-same, mass-constant, mass-none}
use Rattle.gb_dist.proofs.Entries.{On-unit, On-bind, On-dmap, On-weaken}

-- a list is coupled with itself on equality
pub coupling_identity : {A : Type 0} (P : A → Type 0) (l : WeightedList A) (k : ℕ) → 0 < k → On P l →
    Coupling (λ (a b : A). P a × (a ≡ b)) l k l k
coupling_identity P l k h o = record {
  denominator = k;
  positive = h;
  pairs = dmap (λ a. (a, a)) l;
  related = On-dmap {P = P} (λ p. P p.0 × (p.0 ≡ p.1)) (λ a. (a, a)) l (λ a p. (p, refl)) o;
  left = λ f. ap (λ x. x * k) (mass-dmap (λ a. (a, a)) l (λ p. f p.0));
  right = λ f. ap (λ x. x * k) (mass-dmap (λ a. (a, a)) l (λ p. f p.1));
}

-- a coupling on a stronger relation
pub coupling_weakening : {A B : Type 0} {Q R : A → B → Type 0} {l1 : WeightedList A} {k1 : ℕ} {l2 : WeightedList B} {k2 : ℕ} →
    ((a : A) (b : B) → Q a b → R a b) → Coupling Q l1 k1 l2 k2 → Coupling R l1 k1 l2 k2
coupling_weakening {Q = Q} {R = R} h c = record {
  denominator = c.denominator;
  positive = c.positive;
  pairs = c.pairs;
  related = On-weaken {P = λ p. Q p.0 p.1} {Q = λ p. R p.0 p.1} c.pairs (λ p. h p.0 p.1) c.related;
  left = c.left;
  right = c.right;
}

-- the two sides exchanged
pub coupling_symmetry : {A B : Type 0} {Q : A → B → Type 0} {l1 : WeightedList A} {k1 : ℕ} {l2 : WeightedList B} {k2 : ℕ} →
    Coupling Q l1 k1 l2 k2 → Coupling (λ b a. Q a b) l2 k2 l1 k1
coupling_symmetry {Q = Q} {k1 = k1} {k2 = k2} c = record {
  denominator = c.denominator;
  positive = c.positive;
  pairs = dmap (λ p. (p.1, p.0)) c.pairs;
  related = On-dmap {P = λ p. Q p.0 p.1} (λ p. Q p.1 p.0) (λ p. (p.1, p.0)) c.pairs (λ p q. q) c.related;
  left = λ f. ap (λ x. x * k2) (mass-dmap (λ p. (p.1, p.0)) c.pairs (λ p. f p.0)) ∙ c.right f;
  right = λ f. ap (λ x. x * k1) (mass-dmap (λ p. (p.1, p.0)) c.pairs (λ p. f p.1)) ∙ c.left f;
}

-- functions of the two outcomes
pub coupling_dmap : {A B C D : Type 0} {Q : A → B → Type 0} (R : C → D → Type 0) {l1 : WeightedList A} {k1 : ℕ} {l2 : WeightedList B} {k2 : ℕ}
    (g : A → C) (h : B → D) → ((a : A) (b : B) → Q a b → R (g a) (h b)) → Coupling Q l1 k1 l2 k2 → Coupling R (dmap g l1) k1 (dmap h l2) k2
coupling_dmap {A} {B} {C} {D} {Q = Q} R {l1} {k1} {l2} {k2} g h q c = record {
  denominator = c.denominator;
  positive = c.positive;
  pairs = dmap both c.pairs;
  related = On-dmap {P = λ p. Q p.0 p.1} (λ p. R p.0 p.1) both c.pairs (λ p. q p.0 p.1) c.related;
  left = λ f. omega (arith, ap (λ x. x * k1) (mass-dmap both c.pairs (λ p. f p.0)), c.left (λ a. f (g a)), ap (λ x. x * c.denominator) (mass-dmap g l1 f));
  right = λ f. omega (arith, ap (λ x. x * k2) (mass-dmap both c.pairs (λ p. f p.1)), c.right (λ b. f (h b)), ap (λ x. x * c.denominator) (mass-dmap h l2 f));
}
  where
    both : A × B → C × D
    both p = (g p.0, h p.1)

-- lists of the same distributions are coupled alike
pub coupling_same : {A B : Type 0} {Q : A → B → Type 0} {l1 : WeightedList A} {k1 : ℕ} {l2 : WeightedList B} {k2 : ℕ}
    (r1 : WeightedList A) (j1 : ℕ) (r2 : WeightedList B) (j2 : ℕ) → 0 < k1 → 0 < k2 →
    SameDistribution l1 k1 r1 j1 → SameDistribution l2 k2 r2 j2 → Coupling Q l1 k1 l2 k2 → Coupling Q r1 j1 r2 j2
coupling_same {k1 = k1} {k2 = k2} r1 j1 r2 j2 h1 h2 e1 e2 c = record {
  denominator = c.denominator;
  positive = c.positive;
  pairs = c.pairs;
  related = c.related;
  left = λ f. eq_of_mul-eq-mul_right k1 h1 _ _ (omega (arith, ap (λ z. z * j1) (c.left f), ap (λ z. z * c.denominator) (e1 f)));
  right = λ f. eq_of_mul-eq-mul_right k2 h2 _ _ (omega (arith, ap (λ z. z * j2) (c.right f), ap (λ z. z * c.denominator) (e2 f)));
}

-- the lists at other scales
pub coupling_rescaling : {A B : Type 0} {Q : A → B → Type 0} {l1 : WeightedList A} {k1 : ℕ} {l2 : WeightedList B} {k2 : ℕ} (c1 c2 : ℕ) →
    Coupling Q l1 k1 l2 k2 → Coupling Q (scale c1 l1) (c1 * k1) (scale c2 l2) (c2 * k2)
coupling_rescaling {l1 = l1} {k1 = k1} {l2 = l2} {k2 = k2} c1 c2 c = record {
  denominator = c.denominator;
  positive = c.positive;
  pairs = c.pairs;
  related = c.related;
  left = λ f. omega (arith, ap (λ z. c1 * z) (c.left f), ap (λ z. z * c.denominator) (mass-scale c1 l1 f));
  right = λ f. omega (arith, ap (λ z. c2 * z) (c.right f), ap (λ z. z * c.denominator) (mass-scale c2 l2 f));
}

module _ {A B : Type 0} (P : A → Type 0) (Q : B → Type 0) (R : A → B → Type 0) (related : (a : A) (b : B) → P a → Q b → R a b)
    (l1 : WeightedList A) (k1 : ℕ) (l2 : WeightedList B) (k2 : ℕ) (o1 : On P l1) (o2 : On Q l2) (same : total l1 * k2 ≡ total l2 * k1) where
  row : A → WeightedList (A × B)
  row a = dmap (λ b. (a, b)) l2

  -- all pairs of outcomes
  all_pairs : 0 < total l2 * k1 → Coupling R l1 k1 l2 k2
  unfolding row
  all_pairs h = record {
    denominator = total l2 * k1;
    positive = h;
    pairs = bind l1 row;
    related = On-bind P (λ p. R p.0 p.1) l1 row o1 (λ a p. On-dmap (λ p. R p.0 p.1) (λ b. (a, b)) l2 (λ b q. related a b p q) o2);
    left = λ f. omega (arith, ap (λ x. x * k1) (firsts f));
    right = λ f. omega (arith, ap (λ x. x * k2) (seconds f), ap (λ x. mass l2 f * x) same);
  }
    where
      firsts : (f : A → ℕ) → mass (bind l1 row) (λ p. f p.0) ≡ total l2 * mass l1 f
      firsts f =
          mass-bind l1 row (λ p. f p.0)
          ∙ mass-same l1 _ (λ a. total l2 * f a) (λ a. mass-dmap (λ b. (a, b)) l2 (λ p. f p.0) ∙ mass-constant l2 (f a))
          ∙ mass-times (total l2) l1 f

      seconds : (f : B → ℕ) → mass (bind l1 row) (λ p. f p.1) ≡ total l1 * mass l2 f
      seconds f =
          mass-bind l1 row (λ p. f p.1)
          ∙ mass-same l1 _ (λ a. mass l2 f) (λ a. mass-dmap (λ b. (a, b)) l2 (λ p. f p.1))
          ∙ mass-constant l1 (mass l2 f)

  no_pairs : total l1 ≡ 0 → total l2 ≡ 0 → Coupling R l1 k1 l2 k2
  no_pairs h1 h2 = record {
    denominator = 1;
    positive = omega arith;
    pairs = [];
    related = tt;
    left = λ f. omega (arith, mass-none l1 f h1);
    right = λ f. omega (arith, mass-none l2 f h2);
  }

  no_factor : (x y : ℕ) → 0 < y → x * y ≡ 0 → x ≡ 0
  no_factor zero y h e = refl
  no_factor (suc x) y h e = absurd (let p : 0 < suc x * y = mul-pos (omega arith) h in omega arith)

  -- independent lists of the same total: related wherever their entries are
  pub coupling_product : 0 < k1 → 0 < k2 → Coupling R l1 k1 l2 k2
  coupling_product h1 h2 = elim (eq-zero-or-pos (total l2 * k1)) [
    | inl z ↦ no_pairs (no_factor (total l1) k2 h2 (omega (arith, same))) (no_factor (total l2) k1 h1 z)
    | inr p ↦ all_pairs p
  ]

-- a list of full weight beside one outcome
pub coupling_left_alone : {A B : Type 0} (P : A → Type 0) (R : A → B → Type 0) (l : WeightedList A) (k : ℕ) (b : B) →
    0 < k → total l ≡ k → On P l → ((a : A) → P a → R a b) → Coupling R l k (unit b) 1
coupling_left_alone P R l k b h t o r =
    coupling_product P (λ z. z ≡ b) R (λ a z p e. subst (λ v. R a v) (sym e) (r a p)) l k (unit b) 1
    o (On-unit (λ z. z ≡ b) b refl) (omega (arith, t)) h (omega arith)

pub coupling_right_alone : {A B : Type 0} (P : B → Type 0) (R : A → B → Type 0) (l : WeightedList B) (k : ℕ) (a : A) →
    0 < k → total l ≡ k → On P l → ((b : B) → P b → R a b) → Coupling R (unit a) 1 l k
coupling_right_alone P R l k a h t o r = coupling_symmetry (coupling_left_alone P (λ b z. R z b) l k a h t o r)
