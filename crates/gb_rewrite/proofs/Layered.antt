-- The first term that a law of events speaks of, layer by layer.
use Rattle.std.proofs.Common.{◌≡◌, ◌⊎◌, inl, inr, ℕ, suc, ◌+◌, ◌<◌, ◌≤◌, Bool, true, false, List, [], ◌∷◌, ◌++◌, length, get_or, take, drop, slice_set, Option, Some, None, refl, ap, sym, ◌∙◌, subst, arith}
use Rattle.std.specs.Option.{option_map}
use Rattle.std.proofs.lemmas.List.{take_more, drop_more, drop_all, set_split}
use Rattle.std.proofs.lemmas.Option.{same_Some, none-some}
use Rattle.gb_terms.specs.declared.module.ProcRef.{ProcRef}
use Rattle.gb_terms.specs.declared.op.Side.{Side}
use Rattle.gb_terms.specs.declared.term.Term.{Term, Term', Row_of-Term, end_of-Term, more_of-Term, end_of-Head, more_of-Head, out-Term}
use Rattle.gb_terms.specs.declared.term.Head.{Head}
use Rattle.gb_terms.specs.declared.term.Head.TheVariants as head
use Rattle.gb_terms.specs.Make.{node}
use Rattle.gb_goal.specs.Scope.{Declarations}
use Rattle.gb_steps.specs.declared.step.EventLaw.{EventLaw}
use Rattle.gb_steps.specs.Chances.{last, before_last}
use Rattle.gb_steps.specs.First.{is_quotient, or_else}
use Rattle.gb_steps.proofs.Parts.{last_behind, before_behind}
use Rattle.gb_meaning.specs.Commands.{terms_in}
use Rattle.gb_laws.proofs.Trees.{out_is}
use Rattle.gb_rewrite.specs.Events.{by_law, law_at, by_first, parts_by_first, any_by_law, list_by_law}
use Rattle.gb_rewrite.proofs.Moved.{AllBecome}
use mathlib.Core.Former.{Count}

-- arguments, and an event behind them
last_apart : (t : Term) (ts : List Term) → t ∷ ts ≡ before_last t ts ++ last t ts ∷ []
last_apart t [] = refl
last_apart t (u ∷ ts) = ap (λ us. t ∷ us) (last_apart u ts)

module _ (ds : Declarations) (l : EventLaw) where
  -- a law at a probability
  pub law_behind : (p : ProcRef) (r : Side) (ts before : List Term) (event : Term) → ts ≡ before ++ (event ∷ []) → law_at ds l (head.Pr p r) ts ≡ by_law ds l p r before event
  law_behind p r ts before event e = ap (law_at ds l (head.Pr p r)) e ∙ split before
    where
      split : (before : List Term) → law_at ds l (head.Pr p r) (before ++ event ∷ []) ≡ by_law ds l p r before event
      split [] = refl
      split (t ∷ us) =
          let b = before_behind t us event in
          let e = last_behind t us event in
          λ i. by_law ds l p r (b i) (e i)

  -- the probability that a law speaks of
  pub record IsSpokenOf (h : Head) (ts : List Term) (x : Term) : Type 0 where
    pub procedure : ProcRef
    pub memory : Side
    pub arguments : List Term
    pub event : Term
    pub head : h ≡ head.Pr procedure memory
    pub parts : ts ≡ arguments ++ event ∷ []
    pub by : by_law ds l procedure memory arguments event ≡ Some x

  pub spoken_of : (h : Head) (ts : List Term) (x : Term) → law_at ds l h ts ≡ Some x → IsSpokenOf h ts x
  spoken_of (head.Pr p r) (t ∷ ts) x e =
      record { procedure = p; memory = r; arguments = before_last t ts; event = last t ts; head = refl; parts = last_apart t ts; by = e }
  spoken_of h ts x e = absurd (none-some x e)

  pub parts_are : {n : Count} (d : Bool) (ts : Row_of-Term n) → parts_by_first ds l d ts ≡ list_by_law ds l d (terms_in ts)
  parts_are true end_of-Term = refl
  parts_are false end_of-Term = refl
  parts_are true (more_of-Term t ts) = refl
  parts_are false (more_of-Term t ts) = ap (λ o. or_else (option_map (λ u. u ∷ terms_in ts) (by_first ds l t)) (option_map (λ us. t ∷ us) o)) (parts_are false ts)

  -- by the head and the arguments of a term
  abbrev pub at_layer : Term → Option Term
  at_layer t = or_else (law_at ds l (out-Term t).head (out-Term t).args) (option_map (λ us. node (out-Term t).head us (out-Term t).ty) (list_by_law ds l (is_quotient (out-Term t).head) (out-Term t).args))

  pub by_first_out : (t : Term) → by_first ds l t ≡ at_layer t
  by_first_out (Term' tt (more_of-Head h end_of-Head) n ts ty) =
      ap (λ o. or_else (law_at ds l h (terms_in ts)) (option_map (λ us. node h us ty) o)) (parts_are (is_quotient h) ts)
      ∙ ap (λ x. or_else (law_at ds l x.head x.args) (option_map (λ us. node x.head us x.ty) (list_by_law ds l (is_quotient x.head) x.args))) (sym (out_is h n ts ty))

  -- behind terms that stay
  abbrev pub passing : List Term → List Term → Option (List Term)
  passing made [] = None
  passing made (t ∷ ts) = or_else (option_map (λ u. made ++ u ∷ ts) (by_first ds l t)) (passing (made ++ t ∷ []) ts)

  one_passed : (made : List Term) (t : Term) (us : List Term) → (made ++ t ∷ []) ++ us ≡ made ++ t ∷ us
  one_passed [] t us = refl
  one_passed (a ∷ made) t us = ap (λ vs. a ∷ vs) (one_passed made t us)

  passing_is : (made ts : List Term) → passing made ts ≡ option_map (λ us. made ++ us) (any_by_law ds l ts)
  passing_is made [] = refl
  passing_is made (t ∷ ts) = step (by_first ds l t) (passing_is (made ++ t ∷ []) ts)
    where
      behind : (o : Option (List Term)) → option_map (λ us. (made ++ t ∷ []) ++ us) o ≡ option_map (λ us. made ++ us) (option_map (λ us. t ∷ us) o)
      behind None = refl
      behind (Some us) = ap (λ vs. Some vs) (one_passed made t us)

      step : (o : Option Term) → passing (made ++ t ∷ []) ts ≡ option_map (λ us. (made ++ t ∷ []) ++ us) (any_by_law ds l ts) →
          or_else (option_map (λ u. made ++ u ∷ ts) o) (passing (made ++ t ∷ []) ts)
          ≡ option_map (λ us. made ++ us) (or_else (option_map (λ u. u ∷ ts) o) (option_map (λ us. t ∷ us) (any_by_law ds l ts)))
      step None e = e ∙ behind (any_by_law ds l ts)
      step (Some u) e = refl

  pub passing_none : (ts : List Term) → passing [] ts ≡ any_by_law ds l ts
  passing_none ts = passing_is [] ts ∙ same (any_by_law ds l ts)
    where
      same : (o : Option (List Term)) → option_map (λ us. [] ++ us) o ≡ o
      same None = refl
      same (Some us) = refl

  -- where a loop stands
  module _ (list : List Term) (i : ℕ) (t : Term) (more : i < length list) (is : t ≡ get_or list i t) (so_far : passing (take i list) (drop i list) ≡ any_by_law ds l list) where
    at_this : any_by_law ds l list ≡ passing (take i list) (t ∷ drop (i + 1) list)
    at_this = sym so_far ∙ ap (passing (take i list)) (drop_more list i t more ∙ ap (λ z. z ∷ drop (i + 1) list) (sym is))

    pub stays : None ≡ by_first ds l t → passing (take (i + 1) list) (drop (i + 1) list) ≡ any_by_law ds l list
    stays e =
        ap (λ made. passing made (drop (i + 1) list)) (take_more list i t more ∙ ap (λ z. take i list ++ z ∷ []) (sym is))
        ∙ ap (λ o. or_else (option_map (λ u. take i list ++ u ∷ drop (i + 1) list) o) (passing (take i list ++ t ∷ []) (drop (i + 1) list))) e
        ∙ sym at_this

    pub gives_way : (u : Term) (us : List Term) → Some u ≡ by_first ds l t → us ≡ slice_set list i u → Some us ≡ any_by_law ds l list
    gives_way u us e f =
        let on : suc i ≡ i + 1 = omega arith in
        ap Some (f ∙ set_split list i u more ∙ ap (λ n. take i list ++ u ∷ drop n list) on)
        ∙ ap (λ o. or_else (option_map (λ u. take i list ++ u ∷ drop (i + 1) list) o) (passing (take i list ++ t ∷ []) (drop (i + 1) list))) e
        ∙ sym at_this

  pub none_gives_way : (list : List Term) (i : ℕ) → length list ≤ i → passing (take i list) (drop i list) ≡ any_by_law ds l list → None ≡ any_by_law ds l list
  none_gives_way list i end e = ap (passing (take i list)) (sym (drop_all i list end)) ∙ e

  -- a term stays, or the first one in it gives way
  abbrev pub Becomes : Term → Term → Type 0
  Becomes t x = (t ≡ x) ⊎ (by_first ds l t ≡ Some x)

  pub all_stay : (ts : List Term) → AllBecome Becomes ts ts
  all_stay [] = tt
  all_stay (t ∷ ts) = (inl refl, all_stay ts)

  one_becomes : (t : Term) (ts us : List Term) → option_map (λ u. u ∷ ts) (by_first ds l t) ≡ Some us → AllBecome Becomes (t ∷ ts) us
  one_becomes t ts us e = step (by_first ds l t) refl e
    where
      step : (o : Option Term) → by_first ds l t ≡ o → option_map (λ u. u ∷ ts) o ≡ Some us → AllBecome Becomes (t ∷ ts) us
      step None u e = absurd (none-some us e)
      step (Some x) u e = subst (AllBecome Becomes (t ∷ ts)) (same_Some (x ∷ ts) us e) (inr u, all_stay ts)

  any_becomes : (ts us : List Term) → any_by_law ds l ts ≡ Some us → AllBecome Becomes ts us
  any_becomes [] us e = absurd (none-some us e)
  any_becomes (t ∷ ts) us e = step (option_map (λ u. u ∷ ts) (by_first ds l t)) refl (λ vs k. any_becomes ts vs k) e
    where
      behind : (o : Option (List Term)) → any_by_law ds l ts ≡ o → ((vs : List Term) → any_by_law ds l ts ≡ Some vs → AllBecome Becomes ts vs) →
          option_map (λ vs. t ∷ vs) o ≡ Some us → AllBecome Becomes (t ∷ ts) us
      behind None u go e = absurd (none-some us e)
      behind (Some vs) u go e = subst (AllBecome Becomes (t ∷ ts)) (same_Some (t ∷ vs) us e) (inl refl, go vs u)

      step : (o : Option (List Term)) → option_map (λ u. u ∷ ts) (by_first ds l t) ≡ o → ((vs : List Term) → any_by_law ds l ts ≡ Some vs → AllBecome Becomes ts vs) →
          or_else o (option_map (λ vs. t ∷ vs) (any_by_law ds l ts)) ≡ Some us → AllBecome Becomes (t ∷ ts) us
      step None u go e = behind (any_by_law ds l ts) refl go e
      step (Some vs) u go e = one_becomes t ts us (u ∙ e)

  -- arguments of which the first that gives way does
  pub list_becomes : (d : Bool) (ts us : List Term) → list_by_law ds l d ts ≡ Some us → AllBecome Becomes ts us
  list_becomes true [] us e = absurd (none-some us e)
  list_becomes true (t ∷ ts) us e = one_becomes t ts us e
  list_becomes false ts us e = any_becomes ts us e

  -- What a node becomes: what a law puts in its place, or a node with other arguments.
  pub node_becomes : (P : Term → Type 0) (h : Head) (ts : List Term) (f : List Term → Term) (d : Bool) → ((y : Term) → law_at ds l h ts ≡ Some y → P y) →
      ((us : List Term) → AllBecome Becomes ts us → P (f us)) → (x : Term) → or_else (law_at ds l h ts) (option_map f (list_by_law ds l d ts)) ≡ Some x → P x
  node_becomes P h ts f d here inside x e = step (law_at ds l h ts) refl e
    where
      within : (o : Option (List Term)) → list_by_law ds l d ts ≡ o → option_map f o ≡ Some x → P x
      within None u e = absurd (none-some x e)
      within (Some us) u e = subst P (same_Some (f us) x e) (inside us (list_becomes d ts us u))

      step : (o : Option Term) → law_at ds l h ts ≡ o → or_else o (option_map f (list_by_law ds l d ts)) ≡ Some x → P x
      step None u e = within (list_by_law ds l d ts) refl e
      step (Some y) u e = subst P (same_Some y x e) (here y u)
