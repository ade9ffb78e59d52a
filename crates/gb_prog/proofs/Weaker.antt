-- Chances that stand to a bound: those of events that follow from others, and to bounds that stand to others.
use Rattle.std.proofs.Common.{◌≡◌, ◌<◌, ◌≤◌, ℕ, suc, ◌*◌, Bool, true, pos, negsuc, refl, ap, sym, ◌∙◌, subst, arith}
use Rattle.std.proofs.lemmas.Bool.{false≢true, le-leb, leb-true}
use Rattle.std.proofs.lemmas.Bool.Decides.{Decides-int_eq}
use Rattle.std.proofs.Math.Nat.{div-le_of_le-mul, mul-div_cancel_left}
use Rattle.gb_terms.specs.declared.op.Rel.{Rel}
use Rattle.gb_terms.specs.declared.op.Rel.TheVariants as rel
use Rattle.gb_dist.specs.WeightedList.{WeightedList, weight, bit, mass}
use Rattle.gb_dist.proofs.Masses.{mass-same}
use Rattle.gb_dist.proofs.Weights.{weight-le}
use Rattle.gb_meaning.specs.Fractions.{Fraction}
use Rattle.gb_meaning.specs.Memory.{Memory}
use Rattle.gb_meaning.specs.Judgments.{compares, chance}
use Rattle.gb_prog.proofs.Chances.{below, product_positive, grown, same_int}

-- Where the chance of the second event stands so to a bound, that of the first one does.
abbrev pub Follows : Rel → (Memory → Bool) → (Memory → Bool) → Type 0
Follows rel.AtMost old new = (m : Memory) → old m ≡ true → new m ≡ true
Follows rel.AtLeast old new = (m : Memory) → new m ≡ true → old m ≡ true
Follows rel.Equal old new = (m : Memory) → old m ≡ new m

less_of : (x y b z : ℕ) → x ≤ y → y * b ≤ z → x * b ≤ z
less_of x y b z h k = omega (arith, grown b x y h, k)

more_of : (x y b z : ℕ) → y ≤ x → z ≤ y * b → z ≤ x * b
more_of x y b z h k = omega (arith, grown b y x h, k)

module _ (l : WeightedList Memory) (d : ℕ) (p : 0 < d) (old new : Memory → Bool) where
  pub event_follows : (r : Rel) → Follows r old new → (b : Fraction) → compares r (chance l d new) b ≡ true → compares r (chance l d old) b ≡ true
  event_follows rel.AtMost k (pos n, b) h =
      le-leb (weight l old * b) (n * d) (less_of (weight l old) (weight l new) b (n * d) (weight-le l old new k) (leb-true (weight l new * b) (n * d) h))
  event_follows rel.AtMost k (negsuc n, b) h =
      absurd (false≢true (sym (below (weight l new * b) (suc n * d) (product_positive (suc n) d (omega arith) p)).0 ∙ h))
  event_follows rel.AtLeast k (pos n, b) h =
      le-leb (n * d) (weight l old * b) (more_of (weight l old) (weight l new) b (n * d) (weight-le l new old k) (leb-true (n * d) (weight l new * b) h))
  event_follows rel.AtLeast k (negsuc n, b) h = (below (weight l old * b) (suc n * d) (product_positive (suc n) d (omega arith) p)).1
  event_follows rel.Equal k b h = ap (λ w. compares rel.Equal (pos w, d) b) (mass-same l (λ m. bit (old m)) (λ m. bit (new m)) (λ m. ap bit (k m))) ∙ h

cancelled : (k x y : ℕ) → 0 < k → k * x ≤ k * y → x ≤ y
cancelled k x y p h = subst (λ z. z ≤ y) (mul-div_cancel_left x p) (div-le_of_le-mul k h)

-- products one after another
at_most_through : (w d m c n b : ℕ) → 0 < c → w * c ≤ m * d → m * b ≤ n * c → w * b ≤ n * d
at_most_through w d m c n b p h k =
    cancelled c (w * b) (n * d) p (omega (arith, grown b (w * c) (m * d) h, grown d (m * b) (n * c) k))

at_least_through : (w d m c n b : ℕ) → 0 < c → m * d ≤ w * c → n * c ≤ m * b → n * d ≤ w * b
at_least_through w d m c n b p h k =
    cancelled c (n * d) (w * b) p (omega (arith, grown b (m * d) (w * c) h, grown d (n * c) (m * b) k))

-- A chance stands so to a bound where it does to one that stands so to it.
module _ (w d : ℕ) (p : 0 < d) where
  pub bound_follows : (r : Rel) (c b : Fraction) → 0 < c.1 → 0 < b.1 → compares r (pos w, d) c ≡ true → compares r c b ≡ true → compares r (pos w, d) b ≡ true
  bound_follows rel.AtMost (pos m, c) (pos n, b) u v h k =
      le-leb (w * b) (n * d) (at_most_through w d m c n b u (leb-true (w * c) (m * d) h) (leb-true (m * b) (n * c) k))
  bound_follows rel.AtMost (pos m, c) (negsuc n, b) u v h k = absurd (false≢true (sym (below (m * b) (suc n * c) (product_positive (suc n) c (omega arith) u)).0 ∙ k))
  bound_follows rel.AtMost (negsuc m, c) b u v h k = absurd (false≢true (sym (below (w * c) (suc m * d) (product_positive (suc m) d (omega arith) p)).0 ∙ h))
  bound_follows rel.AtLeast (pos m, c) (pos n, b) u v h k =
      le-leb (n * d) (w * b) (at_least_through w d m c n b u (leb-true (m * d) (w * c) h) (leb-true (n * c) (m * b) k))
  bound_follows rel.AtLeast c (negsuc n, b) u v h k = (below (w * b) (suc n * d) (product_positive (suc n) d (omega arith) p)).1
  bound_follows rel.AtLeast (negsuc m, c) (pos n, b) u v h k = absurd (false≢true (sym (below (n * c) (suc m * b) (product_positive (suc m) b (omega arith) v)).0 ∙ k))
  bound_follows rel.Equal (pos m, c) (pos n, b) u v h k =
      (Decides-int_eq (pos (w * b)) (pos (n * d))).1 (ap pos (equal_through (same_int (w * c) (m * d) h) (same_int (m * b) (n * c) k)))
    where
      equal_through : w * c ≡ m * d → m * b ≡ n * c → w * b ≡ n * d
      equal_through h k =
          let f : w * b ≤ n * d = at_most_through w d m c n b u (omega (arith, h)) (omega (arith, k)) in
          let g : n * d ≤ w * b = at_least_through w d m c n b u (omega (arith, h)) (omega (arith, k)) in omega (arith, f, g)
  bound_follows rel.Equal (pos m, c) (negsuc n, b) u v h k = absurd (false≢true (sym (below (m * b) (suc n * c) (product_positive (suc n) c (omega arith) u)).2 ∙ k))
  bound_follows rel.Equal (negsuc m, c) b u v h k = absurd (false≢true (sym (below (w * c) (suc m * d) (product_positive (suc m) d (omega arith) p)).2 ∙ h))
