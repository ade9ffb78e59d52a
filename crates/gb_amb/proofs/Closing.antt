-- Goals of which nothing is to be shown hold.
use Rattle.std.proofs.Common.{◌≡◌, ◌⊎◌, inl, inr, ⊎_elim, ℕ, zero, suc, Bool, true, false, List, [], ◌∷◌, refl, ap, sym, ◌∙◌, subst}
use Rattle.std.proofs.lemmas.Bool.{false≢true}
use Rattle.gb_core.specs.declared.ty.Ty.{Ty}
use Rattle.gb_core.specs.declared.ty.Ty.TheVariants as ty
use Rattle.gb_core.specs.declared.value.Value.TheVariants.{Num}
use Rattle.gb_terms.specs.declared.op.Op.TheVariants as op
use Rattle.gb_terms.specs.declared.term.Term.{Term, out-Term}
use Rattle.gb_terms.specs.declared.term.Head.{Head}
use Rattle.gb_terms.specs.declared.term.Head.TheVariants as head
use Rattle.gb_terms.specs.Make.{node, bit, truth_literal}
use Rattle.gb_terms.specs.Nodes.{term_nodes}
use Rattle.gb_goal.specs.Answers.{nowhere}
use Rattle.gb_goal.specs.Goal.{judges_bodies}
use Rattle.gb_goal.specs.declared.sequent.Hyp.{Hyp}
use Rattle.gb_goal.specs.declared.sequent.Sequent.{Sequent}
use Rattle.gb_steps.specs.declared.step.AmbientRule.TheVariants.{Split}
use Rattle.gb_meaning.specs.Setting.Meaning.{finite}
use Rattle.gb_meaning.specs.State.{State}
use Rattle.gb_meaning.specs.Meanings.{truth}
use Rattle.gb_meaning.specs.Judgments.{Judge, speaking, den}
use Rattle.gb_meaning.proofs.Nodes.{term_is_node, val_node}
use Rattle.gb_meaning.proofs.SameTerms.{same_terms}
use Rattle.gb_laws.proofs.Exact.{trying}
use Rattle.gb_laws.proofs.Fair.{is_fair}
use Rattle.gb_meaning.proofs.Truths.{truth_of}
use Rattle.gb_meaning.specs.Declared.{Declarations}
use Rattle.gb_meaning.specs.Settings.{Interpretation, setting}
use Rattle.gb_meaning.specs.Truth.{Choice, has_module, Truth}
use Rattle.gb_meaning.specs.Holds.{Holds}
use Rattle.gb_meaning.proofs.Fronts.{without_modules}
use Rattle.gb_typing.specs.Context.{Context}
use Rattle.gb_typing.specs.Typing.{IsForm}
use Rattle.gb_typing.specs.Sequents.{IsTypedSequent}
use Rattle.gb_typing.specs.Scopes.{context_of, IsTypedScope}
use Rattle.gb_typing.proofs.Conclusions.{formula_form}
use Rattle.gb_amb.specs.Closed.{IsAmong, IsOneTwice, IsEvident, IsClosedAt, IsClosedWithin, IsClosed}
use Rattle.gb_amb.specs.Introduced.{with_memory, with_premise, with_variable}
use Rattle.gb_amb.specs.Parts.{concluding, each_concluding, by_shape}
use Rattle.gb_amb.specs.Quantified.{goal_quantifies_modules}
use Rattle.gb_amb.specs.Steps.{LeadTo}
use Rattle.gb_amb.proofs.Around.{parts_lead}
use Rattle.gb_amb.proofs.Cases.{conclusion_formula}
use Rattle.gb_amb.proofs.Introducing.{memory_leads, value_leads}
use Rattle.gb_amb.proofs.Itself.{equation_true, equivalence_true}
use Rattle.gb_amb.proofs.Leading.{c as context_at, assumed_true, by_assumption, by_its_parts, node_is, premise_taken}

-- The literals.

literal_front : (b : Bool) → has_module (truth_literal b) ≡ false
literal_front b = ap has_module (sym (term_is_node (head.Lit (Num (bit b))) [] ty.Bool))

literal_says : (ds : Declarations) (k : Interpretation) (j : Judge) (b : Bool) (s : State) → den (setting ds k) j (truth_literal b) s ≡ b
literal_says ds k j b s = ap truth (val_node (setting ds k) (speaking (setting ds k) j) (head.Lit (Num (bit b))) [] ty.Bool s) ∙ step b
  where
    step : (b : Bool) → truth (finite (Num (bit b))) ≡ b
    step true = truth_of true
    step false = truth_of false

module _ (ds : Declarations) (k : Interpretation) (s : State) where
  true_holds : Truth ds (truth_literal true) k s
  true_holds = (without_modules ds (truth_literal true) k s (literal_front true)).1 (λ j fair. literal_says ds k j true s)

  false_fails : Truth ds (truth_literal false) k s → ⊥
  false_fails h =
      let g = setting ds k in
      false≢true (sym (literal_says ds k (trying g) false s) ∙ (without_modules ds (truth_literal false) k s (literal_front false)).0 h (trying g) (is_fair g))

module _ (ds : Declarations) (scope : IsTypedScope ds) where
  module _ (q : Sequent) (t : IsTypedSequent (context_of ds) q) where
    abbrev c : Context
    c = context_at ds scope q t

    -- an equation or an equivalence of a term with itself
    equal_front : (a b : Term) (u : Ty) → has_module (node (head.Builtin op.Equal) (a ∷ b ∷ []) u) ≡ false
    equal_front a b u = ap has_module (sym (term_is_node (head.Builtin op.Equal) (a ∷ b ∷ []) u))

    iff_front : (a b : Term) (u : Ty) → has_module (node (head.Builtin op.Iff) (a ∷ b ∷ []) u) ≡ false
    iff_front a b u = ap has_module (sym (term_is_node (head.Builtin op.Iff) (a ∷ b ∷ []) u))

    twice_leads : (h : Head) (ts : List Term) → (out-Term q.conclusion).head ≡ h → (out-Term q.conclusion).args ≡ ts → IsOneTwice h ts → LeadTo ds q []
    twice_leads (head.Builtin op.Equal) (a ∷ b ∷ []) hs xs e =
        let u = (out-Term q.conclusion).ty in
        let is = node_is ds scope q t (head.Builtin op.Equal) (a ∷ b ∷ []) hs xs ∙ ap (λ z. node (head.Builtin op.Equal) (a ∷ z ∷ []) u) (sym e) in
        let front = ap has_module is ∙ equal_front a a u in
        let w = subst (IsForm c) is (formula_form c q.conclusion (conclusion_formula c q.conclusion t.conclusion (ap judges_bodies hs)) front) in
        parts_lead ds scope q t [] tt
        (λ k fits s fit x h. (without_modules ds q.conclusion k s front).1
        (λ j fair. subst (λ z. den (setting ds k) j z s ≡ true) (sym is) (equation_true c (setting ds k) fits j s fit a u w)))
    twice_leads (head.Builtin op.Iff) (a ∷ b ∷ []) hs xs e =
        let u = (out-Term q.conclusion).ty in
        let is = node_is ds scope q t (head.Builtin op.Iff) (a ∷ b ∷ []) hs xs ∙ ap (λ z. node (head.Builtin op.Iff) (a ∷ z ∷ []) u) (sym e) in
        let front = ap has_module is ∙ iff_front a a u in
        parts_lead ds scope q t [] tt
        (λ k fits s fit x h. (without_modules ds q.conclusion k s front).1
        (λ j fair. subst (λ z. den (setting ds k) j z s ≡ true) (sym is) (equivalence_true (setting ds k) j s a u)))
    twice_leads h ts hs xs e = absurd e

    evident_leads : IsEvident q → LeadTo ds q []
    evident_leads (inl e) = parts_lead ds scope q t [] tt (λ k fits s fit x h. subst (λ f. Truth ds f k s) (sym e) (true_holds ds k s))
    evident_leads (inr (inl m)) = parts_lead ds scope q t [] tt (λ k fits s fit x h. absurd (false_fails ds k s (assumed_true ds k s q.hyps (truth_literal false) m h)))
    evident_leads (inr (inr (inl m))) = by_assumption ds scope q t m
    evident_leads (inr (inr (inr o))) = twice_leads (out-Term q.conclusion).head (out-Term q.conclusion).args refl refl o

    evident_holds : IsEvident q → Holds ds q
    evident_holds w = let k = evident_leads w in k.leads tt

  -- where closed goals hold, a goal holds of which one layer more is taken apart
  module _ (C : Sequent → Type 0) (each : (r : Sequent) → IsTypedSequent (context_of ds) r → C r → Holds ds r) (q : Sequent) (t : IsTypedSequent (context_of ds) q) where
    of_one : (r : Sequent) → LeadTo ds q (r ∷ []) → C r → Holds ds q
    of_one r k w = k.leads (each r k.typed.0 w, tt)

    of_wider : (r : Sequent) → (goal_quantifies_modules q ≡ false → LeadTo ds q (r ∷ [])) → Choice (goal_quantifies_modules q) (IsEvident q) (C r) → Holds ds q
    of_wider r k w = step (goal_quantifies_modules q) refl w
      where
        step : (b : Bool) → goal_quantifies_modules q ≡ b → Choice b (IsEvident q) (C r) → Holds ds q
        step true e w = evident_holds q t w
        step false e w = of_one r (k e) w

    layer_holds : (h : Head) (ts : List Term) → (out-Term q.conclusion).head ≡ h → (out-Term q.conclusion).args ≡ ts → IsClosedAt C q h ts → Holds ds q
    layer_holds (head.All u) (f ∷ []) hs xs w =
        of_wider (with_variable q [] u f)
        (λ n. value_leads ds scope q t n [] u f (out-Term q.conclusion).ty (node_is ds scope q t (head.All u) (f ∷ []) hs xs) (ap judges_bodies hs)) w
    layer_holds head.AllMemory (f ∷ []) hs xs w =
        of_wider (with_memory q [] f)
        (λ n. memory_leads ds scope q t n [] f (out-Term q.conclusion).ty (node_is ds scope q t head.AllMemory (f ∷ []) hs xs) (ap judges_bodies hs)) w
    layer_holds (head.Builtin op.Implies) (a ∷ f ∷ []) hs xs w = of_one (with_premise q [] a f) (premise_taken ds scope q t [] a f hs xs) w
    layer_holds (head.Builtin op.And) (a ∷ b ∷ []) hs xs w =
        let k = by_its_parts ds scope q t Split nowhere (concluding q a ∷ concluding q b ∷ []) (sym (λ i. each_concluding q (by_shape Split nowhere (hs i) (xs i)))) in
        k.leads (each (concluding q a) k.typed.0 w.0, (each (concluding q b) k.typed.1.0 w.1, tt))
    layer_holds h ts hs xs w = evident_holds q t w

  closed_holds : (n : ℕ) (q : Sequent) → IsTypedSequent (context_of ds) q → IsClosedWithin n q → Holds ds q
  closed_holds zero q t w = evident_holds q t w
  closed_holds (suc n) q t w =
      layer_holds (IsClosedWithin n) (λ r u v. closed_holds n r u v) q t (out-Term q.conclusion).head (out-Term q.conclusion).args refl refl w

  pub closed_leads : (q : Sequent) → IsTypedSequent (context_of ds) q → IsClosed q → LeadTo ds q []
  closed_leads q t w = record { typed = tt; leads = λ h. closed_holds (term_nodes q.conclusion) q t w }

-- It is decided which goals are closed.

either : (A B : Type 0) → Dec A → Dec B → Dec (A ⊎ B)
either A B (yes a) d = yes (inl a)
either A B (no n) (yes b) = yes (inr b)
either A B (no n) (no m) = no (⊎_elim n m)

both : (A B : Type 0) → Dec A → Dec B → Dec (A × B)
both A B (yes a) (yes b) = yes (a, b)
both A B (yes a) (no m) = no (λ w. m w.1)
both A B (no n) d = no (λ w. n w.0)

chosen : (b : Bool) (A B : Type 0) → Dec A → Dec B → Dec (Choice b A B)
chosen true A B d e = d
chosen false A B d e = e

pub among : (hs : List Hyp) (f : Term) → Dec (IsAmong hs f)
among [] f = no (λ m. m)
among (x ∷ hs) f = either (x.form ≡ f) (IsAmong hs f) (same_terms x.form f) (among hs f)

one_twice : (h : Head) (ts : List Term) → Dec (IsOneTwice h ts)
one_twice (head.Builtin op.Equal) (a ∷ b ∷ []) = same_terms a b
one_twice (head.Builtin op.Iff) (a ∷ b ∷ []) = same_terms a b
one_twice h ts = no (λ w. w)

evident : (q : Sequent) → Dec (IsEvident q)
evident q =
    either _ _ (same_terms q.conclusion (truth_literal true))
    (either _ _ (among q.hyps (truth_literal false))
    (either _ _ (among q.hyps q.conclusion) (one_twice (out-Term q.conclusion).head (out-Term q.conclusion).args)))

layer : (C : Sequent → Type 0) → ((r : Sequent) → Dec (C r)) → (q : Sequent) (h : Head) (ts : List Term) → Dec (IsClosedAt C q h ts)
layer C each q (head.All u) (f ∷ []) = chosen (goal_quantifies_modules q) _ _ (evident q) (each (with_variable q [] u f))
layer C each q head.AllMemory (f ∷ []) = chosen (goal_quantifies_modules q) _ _ (evident q) (each (with_memory q [] f))
layer C each q (head.Builtin op.Implies) (a ∷ f ∷ []) = each (with_premise q [] a f)
layer C each q (head.Builtin op.And) (a ∷ b ∷ []) = both _ _ (each (concluding q a)) (each (concluding q b))
layer C each q h ts = evident q

within : (n : ℕ) (q : Sequent) → Dec (IsClosedWithin n q)
within zero q = evident q
within (suc n) q = layer (IsClosedWithin n) (λ r. within n r) q (out-Term q.conclusion).head (out-Term q.conclusion).args

pub closed : (q : Sequent) → Dec (IsClosed q)
closed q = within (term_nodes q.conclusion) q
