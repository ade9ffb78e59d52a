-- Equations that are used up.
use Rattle.std.proofs.Common.{◌≡◌, ℕ, zero, suc, ◌+◌, ◌-◌, ◌<◌, ◌≤◌, nat_le, ⊎_elim, Bool, true, false, not, ◌||◌, cond, Option, Some, None, List, [], ◌∷◌, ◌++◌, length, get_or, take, drop, refl, add-zero, zero-add, add-one, sym, ap, ◌∙◌, subst, append_assoc, map, arith, filter}
use Rattle.std.specs.List.{list_any}
use Rattle.std.specs.Option.{option_map}
use Rattle.std.proofs.lemmas.Bool.{cases_lt}
use Rattle.std.proofs.lemmas.Bool.Decides.{nat_tests}
use Rattle.std.proofs.lemmas.List.{drop_all, get_or_default, length-take, length-drop, length-append, length-map, at_drop_more, nil_from_length}
use Rattle.gb_terms.specs.declared.op.Read.{Read}
use Rattle.gb_terms.specs.declared.term.Term.{Term}
use Rattle.gb_terms.specs.Equal.{read_eq}
use Rattle.gb_terms.specs.Reads.{Reads, each_once}
use Rattle.gb_terms.proofs.Equality.{read_eq-Decides}
use Rattle.gb_walk.specs.declared.change.Change.{Change}
use Rattle.gb_walk.specs.Change.{term_changed}
use Rattle.gb_smt.specs.declared.leaves.Leaf.{Leaf}
use Rattle.gb_smt.specs.declared.equations.Equation.{Equation}
use Rattle.gb_smt.specs.Equations.{use_of, first_usable, one_further, here_or_further, others, with_used, if_usable, used_up_to}

-- what a test finds in a list, it finds where each read stands once

dropped : (p : Read → Bool) (r : Read) → p r ≡ false → (s : Read) (b : Bool) (ys zs : Reads) → read_eq r s ≡ b → list_any p ys ≡ list_any p zs → list_any p (cond (not b) (s ∷ ys) ys) ≡ list_any p (s ∷ zs)
dropped p r h s false ys zs e ih = ap (λ x. p s || x) ih
dropped p r h s true ys zs e ih =
    ih ∙ ap (λ x. x || list_any p zs) (sym (subst (λ z. p z ≡ false) ((read_eq-Decides r s).0 e) h))

without : (p : Read → Bool) (r : Read) → p r ≡ false → (ys : Reads) → list_any p (filter (λ s. not (read_eq r s)) ys) ≡ list_any p ys
without p r h [] = refl
without p r h (s ∷ ys) = dropped p r h s (read_eq r s) _ ys refl (without p r h ys)

first_or_later : (p : Read → Bool) (r : Read) (b : Bool) (rs : Reads) → p r ≡ b → list_any p (each_once rs) ≡ list_any p rs → (p r || list_any p (filter (λ s. not (read_eq r s)) (each_once rs))) ≡ (p r || list_any p rs)
first_or_later p r true rs e ih = ap (λ x. x || list_any p (filter (λ s. not (read_eq r s)) (each_once rs))) e ∙ sym (ap (λ x. x || list_any p rs) e)
first_or_later p r false rs e ih = ap (λ x. p r || x) (without p r e (each_once rs) ∙ ih)

pub any_once : (p : Read → Bool) (rs : Reads) → list_any p (each_once rs) ≡ list_any p rs
any_once p [] = refl
any_once p (r ∷ rs) = first_or_later p r (p r) rs refl (any_once p rs)

-- the first usable hypothesis, n places further

abbrev pub further : ℕ → Option Equation → Option Equation
further n (Some e) = Some (record { place = e.place + n; changes = e.changes })
further n None = None

pub further_none : (o : Option Equation) → further 0 o ≡ o
further_none None = refl
further_none (Some e) = λ i. Some (record { place = add-zero e.place i; changes = e.changes })

further_more : (n : ℕ) (o : Option Equation) → further n (one_further o) ≡ further (n + 1) o
further_more n None = refl
further_more n (Some e) =
    let p : (e.place + 1) + n ≡ e.place + (n + 1) = omega arith in
    λ i. Some (record { place = p i; changes = e.changes })

pub usable_more : (hs : List Term) (n : ℕ) (h : Term) → n < length hs → h ≡ get_or hs n h → use_of h ≡ None → further n (first_usable (drop n hs)) ≡ further (n + 1) (first_usable (drop (n + 1) hs))
usable_more hs n h l e u =
    at_drop_more (λ ys. further n (first_usable ys)) hs n h l
    ∙ ap (λ y. further n (here_or_further (use_of y) (first_usable (drop (n + 1) hs)))) (sym e)
    ∙ ap (λ o. further n (here_or_further o (first_usable (drop (n + 1) hs)))) u
    ∙ further_more n (first_usable (drop (n + 1) hs))

pub usable_here : (hs : List Term) (n : ℕ) (h : Term) (c : Change) → n < length hs → h ≡ get_or hs n h → use_of h ≡ Some c → further n (first_usable (drop n hs)) ≡ Some (record { place = n; changes = c ∷ [] })
usable_here hs n h c l e u =
    at_drop_more (λ ys. further n (first_usable ys)) hs n h l
    ∙ ap (λ y. further n (here_or_further (use_of y) (first_usable (drop (n + 1) hs)))) (sym e)
    ∙ ap (λ o. further n (here_or_further o (first_usable (drop (n + 1) hs)))) u
    ∙ (λ i. Some (record { place = zero-add n i; changes = c ∷ [] }))

abbrev place_or : Option Equation → ℕ
place_or (Some e) = e.place
place_or None = 0

within_further : (o : Option Equation) (hs : List Term) (h : Term) (e : Equation) → first_usable hs ≡ o → ((d : Equation) → first_usable hs ≡ Some d → d.place < length hs) → one_further o ≡ Some e → e.place < length (h ∷ hs)
within_further (Some d) hs h e p ih q =
    let r : e.place ≡ d.place + 1 = ap place_or (sym q) in
    let s : d.place < length hs = ih d p in
    omega arith
within_further None hs h e p ih q = absurd (cc)

within_at : (o : Option Change) (hs : List Term) (h : Term) (e : Equation) → ((d : Equation) → first_usable hs ≡ Some d → d.place < length hs) → here_or_further o (first_usable hs) ≡ Some e → e.place < length (h ∷ hs)
within_at (Some c) hs h e ih q =
    let p : e.place ≡ 0 = ap place_or (sym q) in omega arith
within_at None hs h e ih q = within_further (first_usable hs) hs h e refl ih q

pub place_within : (hs : List Term) (e : Equation) → first_usable hs ≡ Some e → e.place < length hs
place_within [] e q = cc
place_within (h ∷ hs) e q = within_at (use_of h) hs h e (place_within hs) q

pub length_others : (hs : List Term) (place : ℕ) → place < length hs → length (others hs place) + 1 ≡ length hs
length_others hs place l =
    omega (arith, length-append (take place hs) (drop (place + 1) hs), length-take place hs, length-drop (place + 1) hs)

-- the hypotheses but the one at a place, from a place on

abbrev others_by : Bool → List Term → ℕ → ℕ → List Term
others_by true hs place at = others (drop at hs) (place - at)
others_by false hs place at = drop at hs

abbrev pub others_from : List Term → ℕ → ℕ → List Term
others_from hs place at = others_by (nat_le at place) hs place at

pub others_kept : (hs : List Term) (place at : ℕ) (h : Term) → at < length hs → h ≡ get_or hs at h → (at ≡ place → ⊥) → others_from hs place at ≡ h ∷ others_from hs place (at + 1)
others_kept hs place at h l e n = ⊎_elim before behind (cases_lt at place)
  where
    here : drop at hs ≡ h ∷ drop (at + 1) hs
    here = at_drop_more (λ ys. ys) hs at h l ∙ ap (λ y. y ∷ drop (at + 1) hs) (sym e)

    before : at < place → others_from hs place at ≡ h ∷ others_from hs place (at + 1)
    before k =
        let p : nat_le at place ≡ true = grind (arith, nat_tests) in
        let q : nat_le (at + 1) place ≡ true = grind (arith, nat_tests) in
        let r : place - at ≡ suc (place - (at + 1)) = omega arith in
        ap (λ b. others_by b hs place at) p
        ∙ (λ i. others (here i) (r i))
        ∙ ap (λ xs. h ∷ take (place - (at + 1)) (drop (at + 1) hs) ++ xs) (ap (λ m. drop m (h ∷ drop (at + 1) hs)) (add-one (suc (place - (at + 1)))) ∙ ap (λ m. drop m (drop (at + 1) hs)) (sym (add-one (place - (at + 1)))))
        ∙ sym (ap (λ b. h ∷ others_by b hs place (at + 1)) q)

    behind : place ≤ at → others_from hs place at ≡ h ∷ others_from hs place (at + 1)
    behind k =
        let m : at ≡ place → ⊥ = n in
        let p : nat_le at place ≡ false = grind (arith, nat_tests) in
        let q : nat_le (at + 1) place ≡ false = grind (arith, nat_tests) in
        ap (λ b. others_by b hs place at) p ∙ here ∙ sym (ap (λ b. h ∷ others_by b hs place (at + 1)) q)

pub others_dropped : (hs : List Term) (place at : ℕ) (h : Term) → at < length hs → h ≡ get_or hs at h → at ≡ place → others_from hs place at ≡ others_from hs place (at + 1)
others_dropped hs place at h l e n =
    let here : drop at hs ≡ h ∷ drop (at + 1) hs = at_drop_more (λ ys. ys) hs at h l ∙ ap (λ y. y ∷ drop (at + 1) hs) (sym e) in
    let p : nat_le at place ≡ true = grind (arith, nat_tests) in
    let q : nat_le (at + 1) place ≡ false = grind (arith, nat_tests) in
    let r : place - at ≡ 0 = omega arith in
    ap (λ b. others_by b hs place at) p
    ∙ (λ i. others (here i) (r i))
    ∙ sym (ap (λ b. others_by b hs place (at + 1)) q)

pub others_end : (hs : List Term) (place at : ℕ) → place < length hs → length hs ≤ at → others_from hs place at ≡ []
others_end hs place at l m =
    let q : nat_le at place ≡ false = grind (arith, nat_tests) in
    ap (λ b. others_by b hs place at) q ∙ drop_all at hs m

-- one place further, with what is made of the others
module _ (f : Term → Term) (hs out more all : List Term) (place at : ℕ) (l : at < length hs) (was : out ++ map f (others_from hs place at) ≡ all) where
  pub other_changed : (h x : Term) → h ≡ get_or hs at h → (at ≡ place → ⊥) → x ≡ f h → more ≡ out ++ x ∷ [] → more ++ map f (others_from hs place (at + 1)) ≡ all
  other_changed h x e n p m =
      ap (λ xs. xs ++ map f (others_from hs place (at + 1))) (m ∙ ap (λ y. out ++ y ∷ []) p)
      ∙ append_assoc out (f h ∷ []) (map f (others_from hs place (at + 1)))
      ∙ ap (λ xs. out ++ map f xs) (sym (others_kept hs place at h l e n))
      ∙ was

  pub one_dropped : at ≡ place → more ≡ out → more ++ map f (others_from hs place (at + 1)) ≡ all
  one_dropped n m =
      ap (λ xs. xs ++ map f (others_from hs place (at + 1))) m
      ∙ ap (λ xs. out ++ map f xs) (sym (others_dropped hs place at (some_of hs at l) l (get_of hs at l) n))
      ∙ was
    where
      some_of : (xs : List Term) (i : ℕ) → i < length xs → Term
      some_of [] i k = absurd (omega arith)
      some_of (x ∷ xs) i k = get_or (x ∷ xs) i x

      get_of : (xs : List Term) (i : ℕ) (k : i < length xs) → some_of xs i k ≡ get_or xs i (some_of xs i k)
      get_of [] i k = absurd (omega arith)
      get_of (x ∷ xs) i k = get_or_default (x ∷ xs) i x (get_or (x ∷ xs) i x) k

-- one hypothesis used

pub used_none : (n : ℕ) (l : Leaf) → first_usable l.hyps ≡ None → used_up_to n l ≡ l
used_none zero l e = refl
used_none (suc n) l e = ap (λ o. if_usable o l (used_up_to n)) e

used_at : (n : ℕ) (l : Leaf) (e : Equation) → first_usable l.hyps ≡ Some e → length l.hyps ≡ n + 1 → used_up_to (length l.hyps) l ≡ used_up_to n (with_used e l)
used_at n l e q h = ap (λ m. used_up_to m l) (h ∙ add-one n) ∙ ap (λ o. if_usable o l (used_up_to n)) q

pub length_used : (l : Leaf) (e : Equation) → first_usable l.hyps ≡ Some e → length (with_used e l).hyps + 1 ≡ length l.hyps
length_used l e q =
    ap (λ n. n + 1) (length-map (others l.hyps e.place) (λ t. term_changed t e.changes)) ∙ length_others l.hyps e.place (place_within l.hyps e q)

pub used_some : (l : Leaf) (e : Equation) → first_usable l.hyps ≡ Some e → used_up_to (length l.hyps) l ≡ used_up_to (length (with_used e l).hyps) (with_used e l)
used_some l e q = used_at (length (with_used e l).hyps) l e q (sym (length_used l e q))

pub used_no_hyps : (l : Leaf) → length l.hyps ≡ 0 → (used_up_to (length l.hyps) l ≡ l) × (first_usable l.hyps ≡ None)
used_no_hyps l h = (ap (λ n. used_up_to n l) h, ap first_usable (nil_from_length l.hyps h))

-- one hypothesis used, or none that can be

some_used : (l next : Leaf) (o : Option Equation) → first_usable l.hyps ≡ o → Some next ≡ option_map (λ e. with_used e l) o → (length next.hyps + 1 ≡ length l.hyps) × (used_up_to (length next.hyps) next ≡ used_up_to (length l.hyps) l)
some_used l next (Some e) p q =
    let r : with_used e l ≡ next = cc in
    (subst (λ m. length m.hyps + 1 ≡ length l.hyps) r (length_used l e p), subst (λ m. used_up_to (length m.hyps) m ≡ used_up_to (length l.hyps) l) r (sym (used_some l e p)))
some_used l next None p q = absurd (cc)

pub next_used : (l next : Leaf) (o : Option Leaf) → o ≡ option_map (λ e. with_used e l) (first_usable l.hyps) → o ≡ Some next → (length next.hyps + 1 ≡ length l.hyps) × (used_up_to (length next.hyps) next ≡ used_up_to (length l.hyps) l)
next_used l next o p q = some_used l next (first_usable l.hyps) refl (sym q ∙ p)

none_some : (o : Option Equation) (f : Equation → Leaf) → None ≡ option_map f o → o ≡ None
none_some None f e = refl
none_some (Some x) f e = absurd (cc)

pub none_used : (l : Leaf) (o : Option Leaf) → o ≡ option_map (λ e. with_used e l) (first_usable l.hyps) → o ≡ None → first_usable l.hyps ≡ None
none_used l o p q = none_some (first_usable l.hyps) _ (sym q ∙ p)
