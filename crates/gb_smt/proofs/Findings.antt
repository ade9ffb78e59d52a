-- What trying the assignments of a claim finds.
use Rattle.std.proofs.Common.{◌≡◌, ℕ, zero, suc, ◌+◌, ◌-◌, ◌<◌, inl, inr, ◌↔◌, true, false, Bool, List, refl, sym, ap, ◌∙◌, add-one, add-zero, add-suc, below_more, arith}
use Rattle.gb_core.specs.declared.value.Value.{Value}
use Rattle.gb_core.specs.declared.value.Card.{Card}
use Rattle.gb_core.specs.declared.value.Card.TheVariants.{Exact, Above}
use Rattle.gb_core.specs.Types.{card_of}
use Rattle.gb_dist.specs.declared.whole.Overflow as number
use Rattle.gb_eval.specs.Findings.{Comes}
use Rattle.gb_eval.specs.Findings.Comes.{found, unknown, overflow}
use Rattle.gb_goal.specs.Scope.{Declarations}
use Rattle.gb_smt.specs.declared.claims.Claim.{Claim}
use Rattle.gb_smt.specs.declared.assign.Found.{Found}
use Rattle.gb_smt.specs.declared.assign.Found.TheVariants.{True, False, Unknown, Overflow}
use Rattle.gb_labels.specs.Labels.{Labels, choices, choice_at}
use Rattle.gb_smt.specs.Assign.{assignments, assignment, labelled_claim, truth_under, truth_at, TrueBefore, IsTrueEverywhere, IsTrueWith, IsFirst, IsUnknown, IsOf, found_under, then_next, found_before, found_among, found_of, found_with, found_with_before}

first_decides : (f next : Found) → (f ≡ True → ⊥) → then_next f next ≡ f
first_decides True next h = absurd (h refl)
first_decides (False values) next h = refl
first_decides Unknown next h = refl
first_decides (Overflow o) next h = refl

-- what is found one after another stays as it is once it isn't `True`
module _ (before at : ℕ → Found) (more : (n : ℕ) → before (suc n) ≡ then_next (before n) (at n)) where
  pub stays : (n m : ℕ) → (before n ≡ True → ⊥) → before (n + m) ≡ before n
  stays n zero h = ap before (add-zero n)
  stays n (suc m) h =
      let e = stays n m h in
      ap before (add-suc n m) ∙ more (n + m) ∙ first_decides (before (n + m)) (at (n + m)) (λ t. h (sym e ∙ t)) ∙ e

  -- the one that decides
  pub decided : (count n : ℕ) (f : Found) → before n ≡ True → f ≡ at n → n < count → (f ≡ True → ⊥) → f ≡ before count
  decided count n f h e l d =
      let next : before (n + 1) ≡ f = ap before (add-one n) ∙ more n ∙ ap (λ g. then_next g (at n)) h ∙ sym e in
      let far : (n + 1) + (count - (n + 1)) ≡ count = omega arith in
      sym (sym (ap before far) ∙ stays (n + 1) (count - (n + 1)) (λ t. d (sym next ∙ t)) ∙ next)

module _ (ds : Declarations) where
  module _ (c : Claim) where
    -- one assignment more
    pub found_next : (n : ℕ) (values : List Value) → found_before ds n c ≡ True → values ≡ assignment c n → found_before ds (n + 1) c ≡ found_under (truth_under ds c values) values
    found_next n values h v =
        ap (λ m. found_before ds m c) (add-one n)
        ∙ ap (λ f. then_next f (found_under (truth_at ds c n) (assignment c n))) h
        ∙ sym (ap (λ x. found_under (truth_under ds c x) x) v)

    among : (k : Card) → card_of (assignments c) ≡ k → found_of ds c ≡ found_among ds k c
    among k e = ap (λ x. found_among ds x c) e

    -- the assignment that decides
    pub found_here : (count n : ℕ) (values : List Value) (f : Found) → card_of (assignments c) ≡ Exact count → n < count → found_before ds n c ≡ True → values ≡ assignment c n → found_under (truth_under ds c values) values ≡ f → (f ≡ True → ⊥) → found_of ds c ≡ f
    found_here count n values f e l h v u d =
        let p = found_next n values h v ∙ u in
        let q : count ≡ (n + 1) + (count - (n + 1)) = omega arith in
        among (Exact count) e ∙ ap (λ k. found_before ds k c) q ∙ stays (λ k. found_before ds k c) (λ k. found_under (truth_at ds c k) (assignment c k)) (λ k. refl) (n + 1) (count - (n + 1)) (λ t. d (sym p ∙ t)) ∙ p

    -- no assignment decides
    pub found_everywhere : (count n : ℕ) → card_of (assignments c) ≡ Exact count → count ≡ n → found_before ds n c ≡ True → found_of ds c ≡ True
    found_everywhere count n e q h = among (Exact count) e ∙ ap (λ k. found_before ds k c) q ∙ h

    pub found_above : card_of (assignments c) ≡ Above → found_of ds c ≡ Unknown
    found_above e = among Above e

  -- one assignment more under which the claim is true, and the one that decides
  module _ (c : Claim) (n : ℕ) (f : Found) (h : found_before ds n c ≡ True) (e : f ≡ found_under (truth_at ds c n) (assignment c n)) where
    next : found_before ds (n + 1) c ≡ f
    next = ap (λ m. found_before ds m c) (add-one n) ∙ ap (λ g. then_next g (found_under (truth_at ds c n) (assignment c n))) h ∙ sym e

    pub true_there : f ≡ True → found_before ds (n + 1) c ≡ True
    true_there d = next ∙ d

    pub decided_there : (count : ℕ) → card_of (assignments c) ≡ Exact count → n < count → (f ≡ True → ⊥) → f ≡ found_of ds c
    decided_there count k l d = sym (found_here c count n (assignment c n) f k l h refl (sym e) d)

  -- what is found, in words of all assignments

  found_true : (t : Comes Bool) (values : List Value) → found_under t values ≡ True → t ≡ found true
  found_true (found true) values e = refl
  found_true (found false) values e = absurd (cc)
  found_true unknown values e = absurd (cc)
  found_true (overflow o) values e = absurd (cc)

  found_false : (t : Comes Bool) (values vs : List Value) → found_under t values ≡ False vs → (t ≡ found false) × (vs ≡ values)
  found_false (found true) values vs e = absurd (cc)
  found_false (found false) values vs e = (refl, cc)
  found_false unknown values vs e = absurd (cc)
  found_false (overflow o) values vs e = absurd (cc)

  found_unknown : (t : Comes Bool) (values : List Value) → found_under t values ≡ Unknown → t ≡ unknown
  found_unknown (found true) values e = absurd (cc)
  found_unknown (found false) values e = absurd (cc)
  found_unknown unknown values e = refl
  found_unknown (overflow o) values e = absurd (cc)

  found_overflow : (t : Comes Bool) (values : List Value) (o : number.Overflow) → found_under t values ≡ Overflow o → t ≡ overflow o
  found_overflow (found true) values o e = absurd (cc)
  found_overflow (found false) values o e = absurd (cc)
  found_overflow unknown values o e = absurd (cc)
  found_overflow (overflow p) values o e = let q : p ≡ o = cc in ap overflow q

  both_true : (f g : Found) → then_next f g ≡ True → (f ≡ True) × (g ≡ True)
  both_true True g e = (refl, e)
  both_true (False values) g e = absurd (cc)
  both_true Unknown g e = absurd (cc)
  both_true (Overflow o) g e = absurd (cc)

  -- this place is the first whose assignment decides
  record IsDecidedBefore (c : Claim) (n : ℕ) (f : Found) : Type 0 where
    place : ℕ
    below : place < n
    before : found_before ds place c ≡ True
    there : found_under (truth_at ds c place) (assignment c place) ≡ f

  further : (c : Claim) (n : ℕ) (f : Found) → IsDecidedBefore c n f → IsDecidedBefore c (suc n) f
  further c n f d = record { place = d.place; below = (let l : d.place < n = d.below in omega arith); before = d.before; there = d.there }

  here_or_before : (c : Claim) (n : ℕ) (f g : Found) → found_before ds n c ≡ g → then_next g (found_under (truth_at ds c n) (assignment c n)) ≡ f → (found_before ds n c ≡ f → IsDecidedBefore c n f) → IsDecidedBefore c (suc n) f
  here_or_before c n f True e k r = record { place = n; below = omega arith; before = e; there = k }
  here_or_before c n f (False values) e k r = further c n f (r (e ∙ k))
  here_or_before c n f Unknown e k r = further c n f (r (e ∙ k))
  here_or_before c n f (Overflow o) e k r = further c n f (r (e ∙ k))

  decided_before : (c : Claim) (n : ℕ) (f : Found) → (f ≡ True → ⊥) → found_before ds n c ≡ f → IsDecidedBefore c n f
  decided_before c zero f d e = absurd (d (sym e))
  decided_before c (suc n) f d e = here_or_before c n f (found_before ds n c) refl e (decided_before c n f d)

  true_before : (c : Claim) (n : ℕ) → found_before ds n c ≡ True → TrueBefore ds n c
  true_before c zero h i l = absurd (omega arith)
  true_before c (suc n) h i l =
      let p = both_true (found_before ds n c) (found_under (truth_at ds c n) (assignment c n)) h in
      below_more (λ k. truth_at ds c k ≡ found true) n (true_before c n p.0) (found_true (truth_at ds c n) (assignment c n) p.1) i (omega arith)

  before_true : (c : Claim) (n : ℕ) → TrueBefore ds n c → found_before ds n c ≡ True
  before_true c zero h = refl
  before_true c (suc n) h =
      ap (λ f. then_next f (found_under (truth_at ds c n) (assignment c n))) (before_true c n (λ i l. h i (omega arith)))
      ∙ ap (λ t. found_under t (assignment c n)) (h n (omega arith))

  first_at : (c : Claim) (count : ℕ) (f : Found) (values : List Value) (t : Comes Bool) → card_of (assignments c) ≡ Exact count → (d : IsDecidedBefore c count f) → truth_at ds c d.place ≡ t → values ≡ assignment c d.place → IsFirst ds c values t
  first_at c count f values t e d u v = record {
    count = count;
    exact = e;
    place = d.place;
    below = d.below;
    before = true_before c d.place d.before;
    values_at = v;
    there = ap (truth_under ds c) v ∙ u;
  }

  by_count : (c : Claim) (k : Card) (f : Found) → card_of (assignments c) ≡ k → found_among ds k c ≡ f → IsOf ds c f
  by_count c (Exact n) True e h = record { count = n; exact = e; each = true_before c n h }
  by_count c (Exact n) (False values) e h =
      let d = decided_before c n (False values) (λ q. cc) h in
      let p = found_false (truth_at ds c d.place) (assignment c d.place) values d.there in
      first_at c n (False values) values (found false) e d p.0 p.1
  by_count c (Exact n) Unknown e h =
      let d = decided_before c n Unknown (λ q. cc) h in
      inr (assignment c d.place, first_at c n Unknown (assignment c d.place) unknown e d (found_unknown (truth_at ds c d.place) (assignment c d.place) d.there) refl)
  by_count c (Exact n) (Overflow o) e h =
      let d = decided_before c n (Overflow o) (λ q. cc) h in
      (assignment c d.place, first_at c n (Overflow o) (assignment c d.place) (overflow o) e d (found_overflow (truth_at ds c d.place) (assignment c d.place) o d.there) refl)
  by_count c Above True e h = absurd (cc)
  by_count c Above (False values) e h = absurd (cc)
  by_count c Above Unknown e h = inl e
  by_count c Above (Overflow o) e h = absurd (cc)

  first_found : (c : Claim) (f : Found) (values : List Value) (t : Comes Bool) → IsFirst ds c values t → found_under t values ≡ f → (f ≡ True → ⊥) → found_of ds c ≡ f
  first_found c f values t i u d =
      found_here c i.count i.place values f i.exact i.below (before_true c i.place i.before) i.values_at (ap (λ x. found_under x values) i.there ∙ u) d

  unknown_found : (c : Claim) → IsUnknown ds c → found_of ds c ≡ Unknown
  unknown_found c (inl e) = found_above c e
  unknown_found c (inr p) = first_found c Unknown p.0 unknown p.1 refl (λ q. cc)

  found_if : (c : Claim) (f : Found) → IsOf ds c f → found_of ds c ≡ f
  found_if c True i = found_everywhere c i.count i.count i.exact refl (before_true c i.count i.each)
  found_if c (False values) i = first_found c (False values) values (found false) i refl (λ q. cc)
  found_if c Unknown i = unknown_found c i
  found_if c (Overflow o) i = first_found c (Overflow o) i.0 (overflow o) i.1 refl (λ q. cc)

  pub found_exactly : (c : Claim) (f : Found) → found_of ds c ≡ f ↔ IsOf ds c f
  found_exactly c f = (by_count c (card_of (assignments c)) f refl, found_if c f)

  -- all choices of numbers of labels

  module _ (most : Labels) (c : Claim) where
    -- one choice more
    pub choice_true : (n : ℕ) (f : Found) → found_with_before ds most n c ≡ True → f ≡ found_of ds (labelled_claim (choice_at most n) c) → f ≡ True → found_with_before ds most (n + 1) c ≡ True
    choice_true n f h e t =
        ap (λ m. found_with_before ds most m c) (add-one n) ∙ ap (λ g. then_next g (found_of ds (labelled_claim (choice_at most n) c))) h ∙ sym e ∙ t

    -- the one that decides
    pub choice_decides : (n : ℕ) (f : Found) → found_with_before ds most n c ≡ True → f ≡ found_of ds (labelled_claim (choice_at most n) c) → n < choices most → (f ≡ True → ⊥) → f ≡ found_with ds most c
    choice_decides n f h e l d = decided (λ k. found_with_before ds most k c) (λ k. found_of ds (labelled_claim (choice_at most k) c)) (λ k. refl) (choices most) n f h e l d

    -- none decides
    pub no_choice_decides : (n : ℕ) → n ≡ choices most → found_with_before ds most n c ≡ True → True ≡ found_with ds most c
    no_choice_decides n e h = sym (ap (λ k. found_with_before ds most k c) (sym e) ∙ h)

    each_true : (n : ℕ) → found_with_before ds most n c ≡ True → (i : ℕ) → i < n → IsTrueEverywhere ds (labelled_claim (choice_at most i) c)
    each_true zero h i l = absurd (omega arith)
    each_true (suc n) h i l =
        let p = both_true (found_with_before ds most n c) (found_of ds (labelled_claim (choice_at most n) c)) h in
        below_more (λ k. IsTrueEverywhere ds (labelled_claim (choice_at most k) c)) n (each_true n p.0) ((found_exactly (labelled_claim (choice_at most n) c) True).0 p.1) i (omega arith)

    all_true : (n : ℕ) → ((i : ℕ) → i < n → IsTrueEverywhere ds (labelled_claim (choice_at most i) c)) → found_with_before ds most n c ≡ True
    all_true zero h = refl
    all_true (suc n) h =
        ap (λ f. then_next f (found_of ds (labelled_claim (choice_at most n) c))) (all_true n (λ i l. h i (omega arith)))
        ∙ (found_exactly (labelled_claim (choice_at most n) c) True).1 (h n (omega arith))

    pub true_with : found_with ds most c ≡ True ↔ IsTrueWith ds most c
    true_with = (each_true (choices most), all_true (choices most))
