-- Hall's condition gives a transport plan, by induction on the total: one unit is moved along the relation; if an event has become too
-- heavy by that, it had just the weight of the event that it leads into, and both parts of the lists are transported apart.
use Rattle.std.proofs.Common.{◌≡◌, ℕ, zero, suc, ◌+◌, ◌<◌, ◌≤◌, Bool, true, false, ◌&&◌, ◌||◌, inl, inr, [], ◌∷◌, ◌++◌, refl, ap, sym, subst, arith, eq-zero-or-pos}
use Rattle.std.proofs.lemmas.Bool.{and_parts, and_from, or_cases, or_left, or_right}
use Rattle.gb_dist.specs.WeightedList.{WeightedList, mass, total, bit, weight, On}
use Rattle.gb_dist.specs.Coupling.{Passes}
use Rattle.gb_dist.specs.Existence.{IsClosed, passes_hall}
use Rattle.gb_dist.proofs.Masses.{mass-append, mass-none}
use Rattle.gb_dist.proofs.Entries.{On-append}
use Rattle.gb_dist.proofs.Weights.{bit-le_one, bit_pos, weight-le_total}
use Rattle.gb_dist.proofs.ListParts.{UnitTaken, take_unit, inside, outside, total-inside, mass-split, weight-inside, weight-outside}
use Rattle.gb_dist.proofs.HallTest.{Hall, Heavy, equals, equals_true, equals_self, passes_hall-true, passes_hall-false}

-- related pairs whose marginals are the lists, both over one denominator
pub record Plan {A B : Type 0} (r : A → B → Bool) (a : WeightedList A) (b : WeightedList B) : Type 0 where
  pub pairs : WeightedList (A × B)
  pub related : On (λ p. r p.0 p.1 ≡ true) pairs
  pub left : (f : A → ℕ) → mass pairs (λ p. f p.0) ≡ mass a f
  pub right : (f : B → ℕ) → mass pairs (λ p. f p.1) ≡ mass b f

module _ {A B : Type 0} (r : A → B → Bool) where
  no_units : (a : WeightedList A) (b : WeightedList B) → total a ≡ 0 → total b ≡ 0 → Plan r a b
  no_units a b h j = record { pairs = []; related = tt; left = λ f. sym (mass-none a f h); right = λ f. sym (mass-none b f j) }

  one_unit : (a : WeightedList A) (b : WeightedList B) (ta : UnitTaken a (λ x. 1)) (tb : UnitTaken b (λ y. bit (r ta.outcome y))) →
      Plan r ta.rest tb.rest → Plan r a b
  one_unit a b ta tb p = record {
    pairs = ((ta.outcome, tb.outcome), 1) ∷ p.pairs;
    related = (omega arith, bit_pos (r ta.outcome tb.outcome) tb.positive, p.related);
    left = λ g. omega (arith, ta.less g, p.left g);
    right = λ g. omega (arith, tb.less g, p.right g);
  }

  both_parts : (a : WeightedList A) (b : WeightedList B) (s : A → Bool) (u : B → Bool) →
      Plan r (inside s a) (inside u b) → Plan r (outside s a) (outside u b) → Plan r a b
  both_parts a b s u p q = record {
    pairs = p.pairs ++ q.pairs;
    related = On-append (λ z. r z.0 z.1 ≡ true) p.pairs q.pairs p.related q.related;
    left = λ f. omega (arith, mass-append p.pairs q.pairs (λ z. f z.0), p.left f, q.left f, mass-split s a f);
    right = λ f. omega (arith, mass-append p.pairs q.pairs (λ z. f z.1), p.right f, q.right f, mass-split u b f);
  }

  -- both parts of a closed pair of the same weight keep the condition
  hall_inside : (a : WeightedList A) (b : WeightedList B) (s : A → Bool) (u : B → Bool) → IsClosed (Passes r) s u → Hall r a b →
      Hall r (inside s a) (inside u b)
  hall_inside a b s u k h t v j =
      omega (arith, weight-inside s t a, weight-inside u v b, h (λ x. s x && t x) (λ y. u y && v y) both)
    where
      both : IsClosed (Passes r) (λ x. s x && t x) (λ y. u y && v y)
      both x y m e = and_from (u y) (v y) (k x y (and_parts (s x) (t x) m).0 e) (j x y (and_parts (s x) (t x) m).1 e)

  hall_outside : (a : WeightedList A) (b : WeightedList B) (s : A → Bool) (u : B → Bool) → IsClosed (Passes r) s u →
      weight a s ≡ weight b u →
      Hall r a b → Hall r (outside s a) (outside u b)
  hall_outside a b s u k w h t v j =
      omega (arith, w, weight-outside s t a, weight-outside u v b, h (λ x. s x || t x) (λ y. u y || v y) either)
    where
      either : IsClosed (Passes r) (λ x. s x || t x) (λ y. u y || v y)
      either x y m e =
          elim (or_cases (s x) (t x) m) [ inl n ↦ or_left (u y) (v y) (k x y n e) | inr n ↦ or_right (u y) (v y) (j x y n e) ]

  PlanUpTo : ℕ → Type 0
  PlanUpTo t = (a : WeightedList A) (b : WeightedList B) → total a ≤ t → total a ≡ total b → Hall r a b → Plan r a b

  apart : (t : ℕ) → PlanUpTo t → (a : WeightedList A) (b : WeightedList B) → total a ≤ suc t → total a ≡ total b → Hall r a b →
      (ta : UnitTaken a (λ x. 1)) (tb : UnitTaken b (λ y. bit (r ta.outcome y))) → Heavy r ta.rest tb.rest → Plan r a b
  unfolding PlanUpTo
  apart t rec a b n e h ta tb c =
      both_parts a b c.s c.u
      (rec (inside c.s a) (inside c.u b) (omega (arith, small)) (omega (arith, tight, ia, ib)) (hall_inside a b c.s c.u c.closed h))
      (rec (outside c.s a) (outside c.u b) (omega (arith, small, oa, n)) (omega (arith, tight, ia, ib, oa, ob, e)) (hall_outside a b c.s c.u c.closed tight h))
    where
      la : weight a c.s ≡ bit (c.s ta.outcome) + weight ta.rest c.s
      la = ta.less (λ x. bit (c.s x))

      lb : weight b c.u ≡ bit (c.u tb.outcome) + weight tb.rest c.u
      lb = tb.less (λ y. bit (c.u y))

      tight : weight a c.s ≡ weight b c.u
      tight = omega (arith, la, lb, c.heavier, h c.s c.u c.closed, bit-le_one (c.u tb.outcome))

      ia : total (inside c.s a) ≡ weight a c.s
      ia = total-inside c.s a

      ib : total (inside c.u b) ≡ weight b c.u
      ib = total-inside c.u b

      oa : total a ≡ total (inside c.s a) + total (outside c.s a)
      oa = mass-split c.s a (λ x. 1)

      ob : total b ≡ total (inside c.u b) + total (outside c.u b)
      ob = mass-split c.u b (λ y. 1)

      small : (total (inside c.s a) ≤ t) × (0 < total (inside c.s a))
      small = (
        omega (arith, la, lb, tight, ia, c.heavier, bit-le_one (c.u tb.outcome), weight-le_total ta.rest c.s, ta.less (λ x. 1), n),
        omega (arith, la, ia, c.heavier),
      )

  step : (d : Discrete A) (t : ℕ) → PlanUpTo t → PlanUpTo (suc t)
  unfolding PlanUpTo
  step d t rec a b n e h = elim (eq-zero-or-pos (total a)) [
    | inl z ↦ no_units a b z (omega arith)
    | inr p ↦ from_unit (take_unit a (λ x. 1) p)
  ]
    where
      move : (ta : UnitTaken a (λ x. 1)) → (tb : UnitTaken b (λ y. bit (r ta.outcome y))) → (v : Bool) →
          passes_hall r ta.rest tb.rest ≡ v → Plan r a b
      move ta tb true m =
          one_unit a b ta tb
          (rec ta.rest tb.rest (omega (arith, ta.less (λ x. 1), n)) (omega (arith, ta.less (λ x. 1), tb.less (λ y. 1), e)) (passes_hall-true r ta.rest tb.rest m))
      move ta tb false m = apart t rec a b n e h ta tb (passes_hall-false d r ta.rest tb.rest m)

      from_unit : UnitTaken a (λ x. 1) → Plan r a b
      from_unit ta = move ta tb (passes_hall r ta.rest tb.rest) refl
        where
          neighbours : IsClosed (Passes r) (equals d ta.outcome) (r ta.outcome)
          neighbours x y m j = subst (λ v. r v y ≡ true) (sym (equals_true d ta.outcome x m)) j

          tb : UnitTaken b (λ y. bit (r ta.outcome y))
          tb = take_unit b (λ y. bit (r ta.outcome y))
              (omega (arith, h (equals d ta.outcome) (r ta.outcome) neighbours, ta.less (λ x. bit (equals d ta.outcome x)), ap bit (equals_self d ta.outcome)))

  plan_up_to : (d : Discrete A) (t : ℕ) → PlanUpTo t
  unfolding PlanUpTo
  plan_up_to d zero a b n e h = no_units a b (omega arith) (omega arith)
  plan_up_to d (suc t) a b n e h = step d t (plan_up_to d t) a b n e h

  pub plan_of_hall : (d : Discrete A) (a : WeightedList A) (b : WeightedList B) → total a ≡ total b → Hall r a b → Plan r a b
  unfolding PlanUpTo
  plan_of_hall d a b e h = plan_up_to d (total a) a b (omega arith) e h
