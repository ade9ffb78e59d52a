-- What Hall's test says: if it passes no event is heavier than one that it leads into, and if it fails some event is.
use Rattle.std.proofs.Common.{◌≡◌, ℕ, ◌+◌, ◌*◌, ◌<◌, ◌≤◌, Bool, true, false, ◌||◌, inl, inr, [], ◌∷◌, refl, ap, subst, arith}
use Rattle.std.proofs.lemmas.Bool.{false≢true, leb-true, leb-false, and_parts, and_cases, or_cases, or_left, or_right}
use Rattle.gb_dist.specs.WeightedList.{WeightedList, bit, weight}
use Rattle.gb_dist.specs.Coupling.{Passes}
use Rattle.gb_dist.specs.Existence.{IsClosed, passes_hall_beside, passes_hall}
use Rattle.gb_dist.proofs.Weights.{weight-le}

-- no event is heavier than one that it leads into
abbrev pub Hall : {A B : Type 0} → (A → B → Bool) → WeightedList A → WeightedList B → Type 0
Hall r a b = (s : _ → Bool) (u : _ → Bool) → IsClosed (Passes r) s u → weight a s ≤ weight b u

-- a closed pair of which the first is heavier, beside entries of weight x with neighbours c
pub record HeavyBeside {A B : Type 0} (r : A → B → Bool) (a : WeightedList A) (b : WeightedList B) (c : B → Bool) (x : ℕ) : Type 0 where
  pub s : A → Bool
  pub u : B → Bool
  pub closed : IsClosed (Passes r) s u
  pub neighbours : (y : B) → c y ≡ true → u y ≡ true
  pub heavier : weight b u < x + weight a s

pub record Heavy {A B : Type 0} (r : A → B → Bool) (a : WeightedList A) (b : WeightedList B) : Type 0 where
  pub s : A → Bool
  pub u : B → Bool
  pub closed : IsClosed (Passes r) s u
  pub heavier : weight b u < weight a s

pub equals : {A : Type 0} → Discrete A → A → A → Bool
equals d x y = elim (d x y) [ yes p ↦ true | no p ↦ false ]

pub equals_true : {A : Type 0} (d : Discrete A) (x y : A) → equals d x y ≡ true → x ≡ y
unfolding equals
equals_true d x y = go (d x y)
  where
    go : (t : Dec (x ≡ y)) → (elim t as (λ z. Bool) [ yes p ↦ true | no p ↦ false ]) ≡ true → x ≡ y
    go (yes p) h = p
    go (no p) h = absurd (false≢true h)

pub equals_self : {A : Type 0} (d : Discrete A) (x : A) → equals d x x ≡ true
unfolding equals
equals_self d x = go (d x x)
  where
    go : (t : Dec (x ≡ x)) → (elim t as (λ z. Bool) [ yes p ↦ true | no p ↦ false ]) ≡ true
    go (yes p) = refl
    go (no p) = absurd (p refl)

module _ {A B : Type 0} (r : A → B → Bool) (b : WeightedList B) where
  pub passes_beside-true : (a : WeightedList A) (c : B → Bool) (x : ℕ) → passes_hall_beside r a b c x ≡ true →
      (s : A → Bool) (u : B → Bool) → IsClosed (Passes r) s u → ((y : B) → c y ≡ true → u y ≡ true) → x + weight a s ≤ weight b u
  passes_beside-true [] c x h s u k i = omega (arith, leb-true x (weight b c) h, weight-le b c u i)
  passes_beside-true (e ∷ a) c x h s u k i =
      go (s e.0) refl
      (passes_beside-true a c x (and_parts (passes_hall_beside r a b c x) _ h).0 s u k i)
      (passes_beside-true a (λ y. c y || r e.0 y) (x + e.1) (and_parts (passes_hall_beside r a b c x) _ h).1 s u k)
    where
      go : (v : Bool) → s e.0 ≡ v → x + weight a s ≤ weight b u →
          (((y : B) → (c y || r e.0 y) ≡ true → u y ≡ true) → x + e.1 + weight a s ≤ weight b u) → x + weight (e ∷ a) s ≤ weight b u
      go false q p1 p2 = rw q (omega (arith, p1))
      go true q p1 p2 = rw q (omega (arith, p2 (λ y j. elim (or_cases (c y) (r e.0 y) j) [ inl m ↦ i y m | inr m ↦ k e.0 y q m ])))

module _ {A B : Type 0} (d : Discrete A) (r : A → B → Bool) (b : WeightedList B) where
  with_entry : (e : A × ℕ) (a : WeightedList A) (c : B → Bool) (x : ℕ) → HeavyBeside r a b (λ y. c y || r e.0 y) (x + e.1) →
      HeavyBeside r (e ∷ a) b c x
  with_entry e a c x t = record {
    s = s;
    u = t.u;
    closed = λ z y h j. elim (or_cases (equals d z e.0) (t.s z) h) [
      | inl m ↦ t.neighbours y (or_right (c y) (r e.0 y) (subst (λ v. r v y ≡ true) (equals_true d z e.0 m) j))
      | inr m ↦ t.closed z y m j
    ];
    neighbours = λ y h. t.neighbours y (or_left (c y) (r e.0 y) h);
    heavier = omega (arith, t.heavier, weight-le a t.s s (λ z h. or_right (equals d z e.0) (t.s z) h), ap (λ v. e.1 * bit v) here);
  }
    where
      s : A → Bool
      s z = equals d z e.0 || t.s z

      here : s e.0 ≡ true
      here = or_left (equals d e.0 e.0) (t.s e.0) (equals_self d e.0)

  without_entry : (e : A × ℕ) (a : WeightedList A) (c : B → Bool) (x : ℕ) → HeavyBeside r a b c x → HeavyBeside r (e ∷ a) b c x
  without_entry e a c x t =
      record { s = t.s; u = t.u; closed = t.closed; neighbours = t.neighbours; heavier = omega (arith, t.heavier) }

  pub passes_beside-false : (a : WeightedList A) (c : B → Bool) (x : ℕ) → passes_hall_beside r a b c x ≡ false →
      HeavyBeside r a b c x
  passes_beside-false [] c x h = record {
    s = λ z. false;
    u = c;
    closed = λ z y m. absurd (false≢true m);
    neighbours = λ y m. m;
    heavier = omega (arith, leb-false x (weight b c) h);
  }
  passes_beside-false (e ∷ a) c x h =
      elim (and_cases (passes_hall_beside r a b c x) (passes_hall_beside r a b (λ y. c y || r e.0 y) (x + e.1)) h) [
        | inl m ↦ without_entry e a c x (passes_beside-false a c x m)
        | inr m ↦ with_entry e a c x (passes_beside-false a (λ y. c y || r e.0 y) (x + e.1) m)
      ]

pub passes_hall-true : {A B : Type 0} (r : A → B → Bool) (a : WeightedList A) (b : WeightedList B) →
    passes_hall r a b ≡ true → Hall r a b
passes_hall-true r a b h s u k = omega (arith, passes_beside-true r b a (λ y. false) 0 h s u k (λ y m. absurd (false≢true m)))

pub passes_hall-false : {A B : Type 0} (d : Discrete A) (r : A → B → Bool) (a : WeightedList A) (b : WeightedList B) →
    passes_hall r a b ≡ false → Heavy r a b
passes_hall-false d r a b h = plain (passes_beside-false d r b a (λ y. false) 0 h)
  where
    plain : HeavyBeside r a b (λ y. false) 0 → Heavy r a b
    plain c = record { s = c.s; u = c.u; closed = c.closed; heavier = omega (arith, c.heavier) }

-- the condition gives the test
pub passes_of_hall : {A B : Type 0} (d : Discrete A) (r : A → B → Bool) (a : WeightedList A) (b : WeightedList B) →
    Hall r a b → passes_hall r a b ≡ true
passes_of_hall d r a b h = go (passes_hall r a b) refl
  where
    no_heavy : Heavy r a b → ⊥
    no_heavy c = omega (arith, c.heavier, h c.s c.u c.closed)

    go : (v : Bool) → passes_hall r a b ≡ v → v ≡ true
    go true m = refl
    go false m = absurd (no_heavy (passes_hall-false d r a b m))
