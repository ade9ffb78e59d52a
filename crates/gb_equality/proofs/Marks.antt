-- Marks of lists, by tests.
use Rattle.std.proofs.Common.{◌≡◌, ℕ, ◌+◌, ◌<◌, Bool, true, false, not, ◌||◌, ◌&&◌, cond, List, [], ◌∷◌, map, filter, length, get_or, drop, refl, sym, ap, ◌∙◌, add-one, arith}
use Rattle.std.specs.List.{list_any}
use mathlib.Core.Bool.{beq}
use Rattle.std.proofs.lemmas.Bool.{false≢true}
use Rattle.std.proofs.lemmas.List.{drop_more}
use Rattle.gb_terms.specs.declared.term.Term.{Term}
use Rattle.gb_closing.specs.Linked.{Vars, share, linked}
use Rattle.gb_equality.specs.Components.{joined, is_joined, inside, outside, marked}

linked_by : (own : Vars) (test : Vars → Bool) (all : List Vars) → linked own all (map test all) ≡ list_any (λ vs. test vs && share own vs) all
linked_by own test [] = refl
linked_by own test (vs ∷ all) = ap (λ b. (test vs && share own vs) || b) (linked_by own test all)

-- one chain longer
pub joined_more : (n : ℕ) (all : List Vars) (from : Vars) (marks : List Bool) → marks ≡ map (joined n all from) all → map (λ own. share own from || linked own all marks) all ≡ map (joined (n + 1) all from) all
joined_more n all from marks e =
    ap (λ ms. map (λ own. share own from || linked own all ms) all) e
    ∙ (λ i. map (λ own. share own from || linked_by own (joined n all from) all i) all)
    ∙ ap (λ m. map (joined m all from) all) (sym (add-one n))

-- the rest of two lists, one place further
module _ (wanted : Bool) (ts : List Term) (marks : List Bool) (at : ℕ) (l : at < length ts) (e : length marks ≡ length ts) where
  one_in : (w b : Bool) (t : Term) (us : List Term) (ms : List Bool) → beq b w ≡ true → marked w (t ∷ us) (b ∷ ms) ≡ t ∷ marked w us ms
  one_in true true t us ms h = refl
  one_in true false t us ms h = absurd (false≢true h)
  one_in false true t us ms h = absurd (false≢true h)
  one_in false false t us ms h = refl

  one_out : (w b : Bool) (t : Term) (us : List Term) (ms : List Bool) → beq b w ≡ false → marked w (t ∷ us) (b ∷ ms) ≡ marked w us ms
  one_out true true t us ms h = absurd (false≢true (sym h))
  one_out true false t us ms h = refl
  one_out false true t us ms h = refl
  one_out false false t us ms h = absurd (false≢true (sym h))

  pub marked_in : (t : Term) → t ≡ get_or ts at t → beq (get_or marks at false) wanted ≡ true → marked wanted (drop at ts) (drop at marks) ≡ t ∷ marked wanted (drop (at + 1) ts) (drop (at + 1) marks)
  marked_in t x h =
      let m : at < length marks = omega arith in
      (λ i. marked wanted (drop_more ts at t l i) (drop_more marks at false m i))
      ∙ one_in wanted (get_or marks at false) (get_or ts at t) (drop (at + 1) ts) (drop (at + 1) marks) h
      ∙ ap (λ z. z ∷ marked wanted (drop (at + 1) ts) (drop (at + 1) marks)) (sym x)

  from_some : (us : List Term) (n : ℕ) → n < length us → Term
  from_some [] n m = absurd (omega arith)
  from_some (t ∷ us) n m = t

  pub marked_out : beq (get_or marks at false) wanted ≡ false → marked wanted (drop at ts) (drop at marks) ≡ marked wanted (drop (at + 1) ts) (drop (at + 1) marks)
  marked_out h =
      let m : at < length marks = omega arith in
      let t : Term = from_some ts at l in
      (λ i. marked wanted (drop_more ts at t l i) (drop_more marks at false m i))
      ∙ one_out wanted (get_or marks at false) (get_or ts at t) (drop (at + 1) ts) (drop (at + 1) marks) h

inside_step : (b : Bool) (t : Term) (ts us : List Term) (marks : List Bool) → marked true ts marks ≡ us → marked true (t ∷ ts) (b ∷ marks) ≡ cond b (t ∷ us) us
inside_step true t ts us marks e = ap (λ l. t ∷ l) e
inside_step false t ts us marks e = e

outside_step : (b : Bool) (t : Term) (ts us : List Term) (marks : List Bool) → marked false ts marks ≡ us → marked false (t ∷ ts) (b ∷ marks) ≡ cond (not b) (t ∷ us) us
outside_step true t ts us marks e = e
outside_step false t ts us marks e = ap (λ l. t ∷ l) e

inside_by : (test : Term → Bool) (ts : List Term) → marked true ts (map test ts) ≡ filter test ts
inside_by test [] = refl
inside_by test (t ∷ ts) = inside_step (test t) t ts _ (map test ts) (inside_by test ts)

outside_by : (test : Term → Bool) (ts : List Term) → marked false ts (map test ts) ≡ filter (λ t. not (test t)) ts
outside_by test [] = refl
outside_by test (t ∷ ts) = outside_step (test t) t ts _ (map test ts) (outside_by test ts)

pub marked_inside : (hyps : List Term) (from : Vars) (marks : List Bool) → marks ≡ map (is_joined hyps from) hyps → marked true hyps marks ≡ inside hyps from
marked_inside hyps from marks e = ap (marked true hyps) e ∙ inside_by (is_joined hyps from) hyps

pub marked_outside : (hyps : List Term) (from : Vars) (marks : List Bool) → marks ≡ map (is_joined hyps from) hyps → marked false hyps marks ≡ outside hyps from
marked_outside hyps from marks e = ap (marked false hyps) e ∙ outside_by (is_joined hyps from) hyps

-- a test of what is mapped
pub mapped : {X Y : Type 0} (f : X → Y) (test : Y → Bool) (xs : List X) → map test (map f xs) ≡ map (λ x. test (f x)) xs
mapped f test [] = refl
mapped f test (x ∷ xs) = ap (λ l. test (f x) ∷ l) (mapped f test xs)
