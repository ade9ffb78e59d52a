-- A coupling on a relation that can be decided exists exactly where no closed pair of events stands in the way, and this can be tested.
use Rattle.std.proofs.Common.{◌≡◌, ℕ, ◌*◌, ◌<◌, Bool, true, false, eqb, ◌↔◌, refl, ap, sym, ◌∙◌, arith, mul-pos}
use Rattle.std.proofs.lemmas.Bool.{false≢true, and_parts, and_from, eqb-true, eq-eqb}
use Rattle.gb_dist.specs.WeightedList.{WeightedList, total, bit, scale}
use Rattle.gb_dist.specs.Coupling.{Passes, Coupling}
use Rattle.gb_dist.specs.Existence.{IsDominated, Obstruction, passes_hall, has_coupling}
use Rattle.gb_dist.proofs.Masses.{mass-scale}
use Rattle.gb_dist.proofs.Basic.{coupling_weakening}
use Rattle.gb_dist.proofs.CoupledEvents.{coupled_masses, coupled_event_le}
use Rattle.gb_dist.proofs.HallTest.{Hall, Heavy, passes_hall-true, passes_hall-false, passes_of_hall}
use Rattle.gb_dist.proofs.Transport.{Plan, plan_of_hall}

module _ {A B : Type 0} (Q : A → B → Type 0) (l1 : WeightedList A) (k1 : ℕ) (l2 : WeightedList B) (k2 : ℕ) where
  pub dominated_of_coupling : Coupling Q l1 k1 l2 k2 → IsDominated Q l1 k1 l2 k2
  dominated_of_coupling c = record {
    totals = coupled_masses c (λ a. 1) (λ b. 1) (λ a b q. refl);
    events = λ s u k. coupled_event_le c s u (λ a b q h. k a b h q);
  }

  pub obstructed : Obstruction Q l1 k1 l2 k2 → ¬ (Coupling Q l1 k1 l2 k2)
  obstructed o c = omega (arith, o.heavier, (dominated_of_coupling c).events o.s o.u o.closed)

-- for a test
module _ {A B : Type 0} (d : Discrete A) (r : A → B → Bool) (l1 : WeightedList A) (k1 : ℕ) (l2 : WeightedList B) (k2 : ℕ) (h1 : 0 < k1) (h2 : 0 < k2) where
  coupling_of_plan : Plan r (scale k2 l1) (scale k1 l2) → Coupling (Passes r) l1 k1 l2 k2
  coupling_of_plan p = record {
    denominator = k1 * k2;
    positive = mul-pos h1 h2;
    pairs = p.pairs;
    related = p.related;
    left = λ f. omega (arith, ap (λ z. z * k1) (p.left f), ap (λ z. z * k1) (mass-scale k2 l1 f));
    right = λ f. omega (arith, ap (λ z. z * k2) (p.right f), ap (λ z. z * k2) (mass-scale k1 l2 f));
  }

  same_totals : total l1 * k2 ≡ total l2 * k1 → total (scale k2 l1) ≡ total (scale k1 l2)
  same_totals e = omega (arith, e, mass-scale k2 l1 (λ x. 1), mass-scale k1 l2 (λ y. 1))

  hall_of_dominated : IsDominated (Passes r) l1 k1 l2 k2 → Hall r (scale k2 l1) (scale k1 l2)
  hall_of_dominated h s u k = omega (arith, mass-scale k2 l1 (λ x. bit (s x)), mass-scale k1 l2 (λ y. bit (u y)), h.events s u k)

  pub coupling_of_dominated : IsDominated (Passes r) l1 k1 l2 k2 → Coupling (Passes r) l1 k1 l2 k2
  coupling_of_dominated h =
      coupling_of_plan (plan_of_hall r d (scale k2 l1) (scale k1 l2) (same_totals h.totals) (hall_of_dominated h))

  pub has_coupling-true : has_coupling r l1 k1 l2 k2 ≡ true → Coupling (Passes r) l1 k1 l2 k2
  has_coupling-true h = coupling_of_plan (plan_of_hall r d (scale k2 l1) (scale k1 l2)
      (same_totals (eqb-true (total l1 * k2) (total l2 * k1) both.0)) (passes_hall-true r (scale k2 l1) (scale k1 l2) both.1))
    where
      both : (eqb (total l1 * k2) (total l2 * k1) ≡ true) × (passes_hall r (scale k2 l1) (scale k1 l2) ≡ true)
      both = and_parts (eqb (total l1 * k2) (total l2 * k1)) (passes_hall r (scale k2 l1) (scale k1 l2)) h

  pub has_coupling_of_coupling : Coupling (Passes r) l1 k1 l2 k2 → has_coupling r l1 k1 l2 k2 ≡ true
  has_coupling_of_coupling c = and_from (eqb (total l1 * k2) (total l2 * k1)) (passes_hall r (scale k2 l1) (scale k1 l2))
      (eq-eqb (total l1 * k2) (total l2 * k1) (dominated_of_coupling (Passes r) l1 k1 l2 k2 c).totals)
      (passes_of_hall d r (scale k2 l1) (scale k1 l2) (hall_of_dominated (dominated_of_coupling (Passes r) l1 k1 l2 k2 c)))

  -- lists of the same total without a coupling have an obstruction
  pub obstruction_of_failure : total l1 * k2 ≡ total l2 * k1 → has_coupling r l1 k1 l2 k2 ≡ false →
      Obstruction (Passes r) l1 k1 l2 k2
  obstruction_of_failure e h = at (passes_hall r (scale k2 l1) (scale k1 l2)) refl
    where
      unscaled : Heavy r (scale k2 l1) (scale k1 l2) → Obstruction (Passes r) l1 k1 l2 k2
      unscaled c = record {
        s = c.s;
        u = c.u;
        closed = c.closed;
        heavier = omega (arith, c.heavier, mass-scale k2 l1 (λ x. bit (c.s x)), mass-scale k1 l2 (λ y. bit (c.u y)));
      }

      at : (v : Bool) → passes_hall r (scale k2 l1) (scale k1 l2) ≡ v → Obstruction (Passes r) l1 k1 l2 k2
      at true m =
          absurd (false≢true (sym h ∙ and_from (eqb (total l1 * k2) (total l2 * k1)) (passes_hall r (scale k2 l1) (scale k1 l2))
          (eq-eqb (total l1 * k2) (total l2 * k1) e) m))
      at false m = unscaled (passes_hall-false d r (scale k2 l1) (scale k1 l2) m)

  pub tested_coupling_decided : Dec (Coupling (Passes r) l1 k1 l2 k2)
  tested_coupling_decided = at (has_coupling r l1 k1 l2 k2) refl
    where
      at : (v : Bool) → has_coupling r l1 k1 l2 k2 ≡ v → Dec (Coupling (Passes r) l1 k1 l2 k2)
      at true h = yes (has_coupling-true h)
      at false h = no (λ c. false≢true (sym h ∙ has_coupling_of_coupling c))

abbrev pub answer : {P : Type 0} → Dec P → Bool
answer (yes p) = true
answer (no n) = false

answer-true : {P : Type 0} (v : Dec P) → answer v ≡ true → P
answer-true (yes p) h = p
answer-true (no n) h = absurd (false≢true h)

answer_holds : {P : Type 0} (v : Dec P) → P → answer v ≡ true
answer_holds (yes p) q = refl
answer_holds (no n) q = absurd (n q)

-- for a relation that can be decided
module _ {A B : Type 0} (d : Discrete A) (Q : A → B → Type 0) (decide : (x : A) (y : B) → Dec (Q x y))
    (l1 : WeightedList A) (k1 : ℕ) (l2 : WeightedList B) (k2 : ℕ) (h1 : 0 < k1) (h2 : 0 < k2) where
  r : A → B → Bool
  r x y = answer (decide x y)

  of_test : Coupling (Passes r) l1 k1 l2 k2 → Coupling Q l1 k1 l2 k2
  unfolding r
  of_test c = coupling_weakening {Q = Passes r} {R = Q} (λ x y. answer-true (decide x y)) c

  to_test : Coupling Q l1 k1 l2 k2 → Coupling (Passes r) l1 k1 l2 k2
  unfolding r
  to_test c = coupling_weakening {Q = Q} {R = Passes r} (λ x y. answer_holds (decide x y)) c

  test_dominated : IsDominated Q l1 k1 l2 k2 → IsDominated (Passes r) l1 k1 l2 k2
  unfolding r
  test_dominated h = record {
    totals = h.totals;
    events = λ s u k. h.events s u (λ x y m q. k x y m (answer_holds (decide x y) q));
  }

  pub coupling_exists : (Coupling Q l1 k1 l2 k2) ↔ (IsDominated Q l1 k1 l2 k2)
  coupling_exists =
      (dominated_of_coupling Q l1 k1 l2 k2, λ h. of_test (coupling_of_dominated d r l1 k1 l2 k2 h1 h2 (test_dominated h)))

  pub coupling_decided : Dec (Coupling Q l1 k1 l2 k2)
  coupling_decided = at (tested_coupling_decided d r l1 k1 l2 k2 h1 h2)
    where
      at : Dec (Coupling (Passes r) l1 k1 l2 k2) → Dec (Coupling Q l1 k1 l2 k2)
      at (yes c) = yes (of_test c)
      at (no n) = no (λ c. n (to_test c))
