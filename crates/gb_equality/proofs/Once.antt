-- Each term once.
use Rattle.std.proofs.Common.{◌≡◌, ◌≢◌, ℕ, zero, suc, ◌+◌, ◌<◌, ◌⊎◌, inl, inr, Bool, true, false, if◌then◌else◌, ◌||◌, List, [], ◌∷◌, ◌++◌, map, length, get_or, slice_get, Some, refl, sym, ap, ◌∙◌, subst, append-nil, append_assoc, arith}
use Rattle.std.specs.List.{AllPairs, Contains, list_any}
use Rattle.std.proofs.lemmas.Bool.{false≢true, cases_order}
use Rattle.std.proofs.lemmas.List.{get_or_default}
use Rattle.std.proofs.lemmas.List.Elements.{Contains-append_left, Contains-append_right, Contains-append_cases, Contains-push, Contains-push_cases}
use Rattle.std.proofs.lemmas.List.Quantifiers.{all_pairs_push}
use Rattle.std.proofs.lemmas.Option.{get_or_from_slice_get}
use Rattle.gb_terms.specs.declared.term.Term.{Term}
use Rattle.gb_meaning.proofs.SameTerms.{same_terms}
use Rattle.gb_equality.specs.Parts.{is_yes, is_same, with_term, noted}
use Rattle.gb_equality.proofs.Places.{place_within}

-- the test of terms

yes_of : {A : Type 0} (d : Dec A) → is_yes d ≡ true → A
yes_of (yes p) h = p
yes_of (no n) h = absurd (false≢true h)

of_yes : {A : Type 0} (d : Dec A) → A → is_yes d ≡ true
of_yes (yes p) a = refl
of_yes (no n) a = absurd (n a)

pub same_of : (a b : Term) → is_same a b ≡ true → a ≡ b
unfolding is_same
same_of a b h = yes_of (same_terms a b) h

pub of_same : (a b : Term) → a ≡ b → is_same a b ≡ true
unfolding is_same
of_same a b e = of_yes (same_terms a b) e

-- whether a term is among others

found : (s t : Term) (ss : List Term) (b : Bool) → is_same s t ≡ b → (list_any (λ u. is_same u t) ss ≡ true → Contains ss t) → (b || list_any (λ u. is_same u t) ss) ≡ true → Contains (s ∷ ss) t
found s t ss true e f h = (0, omega arith, same_of s t e)
found s t ss false e f h = let k = f h in (suc k.0, omega (arith, k.1), k.2)

pub among_of : (ss : List Term) (t : Term) → list_any (λ s. is_same s t) ss ≡ true → Contains ss t
among_of [] t h = absurd (false≢true h)
among_of (s ∷ ss) t h = found s t ss (is_same s t) refl (among_of ss t) h

or_true : (b c : Bool) → c ≡ true → (b || c) ≡ true
or_true true c h = refl
or_true false c h = h

pub of_among : (ss : List Term) (t : Term) → Contains ss t → list_any (λ s. is_same s t) ss ≡ true
of_among [] t h = absurd (omega (arith, h.1))
of_among (s ∷ ss) t (zero, l, e) = ap (λ b. b || list_any (λ u. is_same u t) ss) (of_same s t e)
of_among (s ∷ ss) t (suc k, l, e) = or_true (is_same s t) (list_any (λ u. is_same u t) ss) (of_among ss t (k, omega (arith, l), e))

by_test : (seen : List Term) (t : Term) (b : Bool) → list_any (λ s. is_same s t) seen ≡ b → with_term seen t ≡ (if b then seen else seen ++ t ∷ [])
by_test seen t b e = ap (λ c. if c then seen else seen ++ t ∷ []) e

pub with_old : (seen : List Term) (t : Term) → Contains seen t → with_term seen t ≡ seen
with_old seen t h = by_test seen t true (of_among seen t h)

pub with_new : (seen : List Term) (t : Term) → (Contains seen t → ⊥) → with_term seen t ≡ seen ++ t ∷ []
with_new seen t n = by_bool (list_any (λ s. is_same s t) seen) refl
  where
    by_bool : (b : Bool) → list_any (λ s. is_same s t) seen ≡ b → with_term seen t ≡ seen ++ t ∷ []
    by_bool true e = absurd (n (among_of seen t e))
    by_bool false e = by_test seen t false e

-- terms noted one after another

pub noted_append : (seen xs ys : List Term) → noted seen (xs ++ ys) ≡ noted (noted seen xs) ys
noted_append seen [] ys = refl
noted_append seen (t ∷ xs) ys = noted_append (with_term seen t) xs ys

-- those seen stay in front
more_with : (seen : List Term) (t : Term) (b : Bool) → (more : List Term) × ((if b then seen else seen ++ t ∷ []) ≡ seen ++ more)
more_with seen t true = ([], sym (append-nil seen))
more_with seen t false = (t ∷ [], refl)

pub noted_front : (seen ts : List Term) → (more : List Term) × (noted seen ts ≡ seen ++ more)
noted_front seen [] = ([], sym (append-nil seen))
noted_front seen (t ∷ ts) =
    let a = more_with seen t (list_any (λ s. is_same s t) seen) in
    let b = noted_front (with_term seen t) ts in
    (a.0 ++ b.0, b.1 ∙ ap (λ l. l ++ b.0) a.1 ∙ append_assoc seen a.0 b.0)

-- what is noted stood in one of the lists, and the other way round

within_one : (seen : List Term) (t u : Term) (b : Bool) → Contains (if b then seen else seen ++ t ∷ []) u → Contains (seen ++ t ∷ []) u
within_one seen t u true h = Contains-append_left seen (t ∷ []) u h
within_one seen t u false h = h

within_two : (seen ts : List Term) (t u : Term) → Contains (seen ++ t ∷ []) u ⊎ Contains ts u → Contains (seen ++ t ∷ ts) u
within_two seen ts t u h = subst (λ l. Contains l u) (append_assoc seen (t ∷ []) ts) (by_case h)
  where
    by_case : Contains (seen ++ t ∷ []) u ⊎ Contains ts u → Contains ((seen ++ t ∷ []) ++ ts) u
    by_case (inl k) = Contains-append_left (seen ++ t ∷ []) ts u k
    by_case (inr k) = Contains-append_right (seen ++ t ∷ []) ts u k

pub noted_from : (seen ts : List Term) (u : Term) → Contains (noted seen ts) u → Contains (seen ++ ts) u
noted_from seen [] u h = subst (λ l. Contains l u) (sym (append-nil seen)) h
noted_from seen (t ∷ ts) u h =
    within_two seen ts t u (by_case (Contains-append_cases (with_term seen t) ts u (noted_from (with_term seen t) ts u h)))
  where
    by_case : Contains (with_term seen t) u ⊎ Contains ts u → Contains (seen ++ t ∷ []) u ⊎ Contains ts u
    by_case (inl k) = inl (within_one seen t u (list_any (λ s. is_same s t) seen) k)
    by_case (inr k) = inr k

pub noted_seen : (seen ts : List Term) (u : Term) → Contains seen u → Contains (noted seen ts) u
noted_seen seen ts u h = subst (λ l. Contains l u) (sym (noted_front seen ts).1) (Contains-append_left seen (noted_front seen ts).0 u h)

with_has : (seen : List Term) (t : Term) → Contains (with_term seen t) t
with_has seen t = by_bool (list_any (λ s. is_same s t) seen) refl
  where
    by_bool : (b : Bool) → list_any (λ s. is_same s t) seen ≡ b → Contains (with_term seen t) t
    by_bool true e = subst (λ l. Contains l t) (sym (by_test seen t true e)) (among_of seen t e)
    by_bool false e = subst (λ l. Contains l t) (sym (by_test seen t false e)) (Contains-push seen t)

pub noted_has : (seen ts : List Term) (u : Term) → Contains ts u → Contains (noted seen ts) u
noted_has seen [] u h = absurd (omega (arith, h.1))
noted_has seen (t ∷ ts) u (zero, l, e) = subst (Contains (noted (with_term seen t) ts)) e (noted_seen (with_term seen t) ts t (with_has seen t))
noted_has seen (t ∷ ts) u (suc k, l, e) = noted_has (with_term seen t) ts u (k, omega (arith, l), e)

-- a place of a term that stands once

pub one_place : (ts : List Term) → AllPairs (λ t u. t ≢ u) ts → (t : Term) (i j : ℕ) → slice_get ts i ≡ Some t → slice_get ts j ≡ Some t → i ≡ j
one_place ts h t i j a b = by_order (cases_order i j)
  where
    same : get_or ts i t ≡ get_or ts j t
    same = get_or_from_slice_get ts i t t a ∙ sym (get_or_from_slice_get ts j t t b)

    by_order : (i ≡ j) ⊎ ((i < j) ⊎ (j < i)) → i ≡ j
    by_order (inl e) = e
    by_order (inr (inl l)) = absurd (h i j t l (place_within ts j t b) same)
    by_order (inr (inr l)) = absurd (h j i t l (place_within ts i t a) (sym same))

pub once_more : (ts : List Term) (t : Term) → AllPairs (λ s u. s ≢ u) ts → (Contains ts t → ⊥) → AllPairs (λ s u. s ≢ u) (ts ++ t ∷ [])
once_more ts t h n = all_pairs_push (λ s u. s ≢ u) ts t h (λ k d l e. n (k, l, get_or_default ts k t d l ∙ e))
