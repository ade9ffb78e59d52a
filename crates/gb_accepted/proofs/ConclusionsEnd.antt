-- The loops of the goals to which steps on conclusions lead.
use Rattle.std.proofs.Common.{◌≡◌, ◌⊎◌, inl, inr, ℕ, Bool, true, false, if◌then◌else◌, List, [], ◌∷◌, map, refl, ap, sym, ◌∙◌, subst}
use Rattle.std.specs.List.{AllByRecursion}
use Rattle.gb_core.specs.declared.place.Place.{Place}
use Rattle.gb_core.specs.declared.refusal.Why.TheVariants.{Shape}
use Rattle.gb_core.specs.declared.ty.Ty.TheVariants.{Bool as bool_ty}
use Rattle.gb_terms.specs.declared.op.Op.TheVariants as op
use Rattle.gb_terms.specs.declared.term.Head.{Head}
use Rattle.gb_terms.specs.declared.term.Head.TheVariants as head
use Rattle.gb_terms.specs.declared.term.Term.{Term, out-Term}
use Rattle.gb_terms.specs.Make.{node}
use Rattle.gb_walk.specs.declared.change.Change.TheVariants.{OfBound}
use Rattle.gb_walk.specs.Change.{term_changed}
use Rattle.gb_goal.specs.Answers.{Answer}
use Rattle.gb_goal.specs.Answers.Answer.{given, refused}
use Rattle.gb_goal.specs.Goal.{judges_bodies}
use Rattle.gb_goal.specs.declared.sequent.Sequent.{Sequent}
use Rattle.gb_steps.specs.declared.step.AmbientRule.{AmbientRule}
use Rattle.gb_steps.specs.declared.step.AmbientRule.TheVariants.{Split, Left, Right, Assumption, Case, Have, Introduce, IntroduceMemory, Discard, Unpack, Branch, Witness, WitnessMemory, Trivial, Done}
use Rattle.gb_meaning.specs.Declared.{Declarations}
use Rattle.gb_typing.specs.Context.{Context}
use Rattle.gb_typing.specs.Forms.{implies_form, not_form}
use Rattle.gb_typing.specs.Scopes.{context_of}
use Rattle.gb_typing.specs.Sequents.{of_sequent, IsTypedSequent}
use Rattle.gb_typing.specs.Typing.{IsForm}
use Rattle.gb_typing.proofs.Given.{refused_at, same_given}
use Rattle.gb_prog.specs.Ends.{SequentEnds}
use Rattle.gb_amb.specs.Introduced.{introduced_at, next_variable, unless_modules, with_memory, with_premise, with_variable}
use Rattle.gb_amb.specs.Parts.{by_premise, concluding, each_concluding, parts_of}
use Rattle.gb_amb.specs.Quantified.{goal_quantifies_modules, quantifies_modules}
use Rattle.gb_amb.specs.Steps.{IsAnswer, IsTypedStep, IsWitness, assuming, by_cases}
use Rattle.gb_amb.specs.Witness.{at_memory, memory_witnessed_at, witnessed_at}
use Rattle.gb_amb.proofs.Cases.{conclusion_formula}
use Rattle.gb_amb.proofs.Taken.{IsTaken, IsUnder, parts_taken}
use Rattle.gb_accepted.proofs.HeadsEnd.{IsBare, bare_ends, formula_bare, node_bare, typed_bare}
use Rattle.gb_accepted.proofs.PartsEnd.{LastIsBare, changed_bare, last_bare}

module _ (ds : Declarations) (q : Sequent) (t : IsTypedSequent (context_of ds) q) where
  abbrev c : Context
  c = of_sequent (context_of ds) q t.frames

  abbrev Ends : List Sequent → Type 0
  Ends qs = AllByRecursion (SequentEnds ds) qs

  -- goals of which no conclusion has a body
  all_end : (fs : List Term) → AllByRecursion IsBare fs → Ends (map (concluding q) fs)
  all_end [] w = tt
  all_end (f ∷ fs) w = (bare_ends ds (concluding q f) w.0, all_end fs w.1)

  one_end : (r : Sequent) (qs : List Sequent) → IsBare r.conclusion → given qs ≡ given (r ∷ []) → Ends qs
  one_end r qs w e = subst Ends (sym (same_given qs (r ∷ []) e)) (bare_ends ds r w, tt)

  -- the last part of a conclusion that is no judgment of bodies
  part_bare : (h : Head) (ts : List Term) → (out-Term q.conclusion).head ≡ h → (out-Term q.conclusion).args ≡ ts → judges_bodies h ≡ false → LastIsBare ts
  part_bare h ts hs xs j = subst LastIsBare xs (last_bare c q.conclusion (conclusion_formula c q.conclusion t.conclusion (ap judges_bodies hs ∙ j)))

  unless_end : (place : Place) (wider : Sequent) (qs : List Sequent) → IsBare wider.conclusion → given qs ≡ unless_modules place q wider → Ends qs
  unless_end place wider qs w e = step (goal_quantifies_modules q) e
    where
      step : (b : Bool) → given qs ≡ (if b then refused Shape place else given (wider ∷ [])) → Ends qs
      step true e = refused_at Shape place qs (sym e)
      step false e = one_end wider qs w e

  introduced_end : (r : AmbientRule) (place : Place) (h : Head) (ts : List Term) → (out-Term q.conclusion).head ≡ h → (out-Term q.conclusion).args ≡ ts → (qs : List Sequent) → given qs ≡ introduced_at r place q h ts → Ends qs
  introduced_end (Introduce x) place (head.All u) (f ∷ []) hs xs qs e =
      unless_end place (with_variable q x u f) qs (changed_bare f (OfBound 0 (next_variable q u) ∷ []) (part_bare (head.All u) (f ∷ []) hs xs refl) (node_bare _ [] u tt, tt)) e
  introduced_end (Introduce x) place (head.Builtin op.Implies) (a ∷ f ∷ []) hs xs qs e = one_end (with_premise q x a f) qs (part_bare (head.Builtin op.Implies) (a ∷ f ∷ []) hs xs refl) e
  introduced_end (IntroduceMemory x) place head.AllMemory (f ∷ []) hs xs qs e =
      unless_end place (with_memory q x f) qs (changed_bare f _ (part_bare head.AllMemory (f ∷ []) hs xs refl) tt) e
  introduced_end r place h ts hs xs qs e = refused_at Shape place qs (sym e)

  witness_ends : (x : Term) (place : Place) (h : Head) (ts : List Term) → (out-Term q.conclusion).head ≡ h → (out-Term q.conclusion).args ≡ ts → IsWitness c x h → (qs : List Sequent) → given qs ≡ witnessed_at x place q h ts → Ends qs
  witness_ends x place (head.Some u) (f ∷ []) hs xs w qs e =
      one_end (concluding q (term_changed f (OfBound 0 x ∷ []))) qs
      (changed_bare f (OfBound 0 x ∷ []) (part_bare (head.Some u) (f ∷ []) hs xs refl) (typed_bare c x w.0, tt)) e
  witness_ends x place h ts hs xs w qs e = refused_at Shape place qs (sym e)

  memory_ends : (i : ℕ) (place : Place) (h : Head) (ts : List Term) → (out-Term q.conclusion).head ≡ h → (out-Term q.conclusion).args ≡ ts → (qs : List Sequent) → given qs ≡ memory_witnessed_at i place q h ts → Ends qs
  memory_ends i place head.SomeMemory (f ∷ []) hs xs qs e = one_end (concluding q (at_memory f i)) qs (changed_bare f _ (part_bare head.SomeMemory (f ∷ []) hs xs refl) tt) e
  memory_ends i place h ts hs xs qs e = refused_at Shape place qs (sym e)

  -- the parts of a conclusion
  premise_bare : (r : AmbientRule) (place : Place) (h : Head) (ts : List Term) (d : Term) (fs : List Term) → by_premise r place h ts d ≡ given fs → IsBare d → AllByRecursion IsBare fs
  premise_bare Discard place h ts d fs e w = subst (AllByRecursion IsBare) (same_given (d ∷ []) fs e) (w, tt)
  premise_bare Unpack place (head.Builtin op.And) (a ∷ b ∷ []) d fs e w = subst (AllByRecursion IsBare) (same_given _ fs e) (node_bare _ _ bool_ty tt, tt)
  premise_bare Unpack place (head.Some u) (a ∷ []) d fs e w = quantified (quantifies_modules d) e
    where
      quantified : (b : Bool) → (if b then refused Shape place else given (node (head.All u) (implies_form a d ∷ []) bool_ty ∷ [])) ≡ given fs → AllByRecursion IsBare fs
      quantified true e = refused_at Shape place fs e
      quantified false e = subst (AllByRecursion IsBare) (same_given _ fs e) (node_bare _ _ bool_ty tt, tt)
  premise_bare Unpack place head.SomeMemory (a ∷ []) d fs e w = quantified (quantifies_modules d) e
    where
      quantified : (b : Bool) → (if b then refused Shape place else given (node head.AllMemory (implies_form a d ∷ []) bool_ty ∷ [])) ≡ given fs → AllByRecursion IsBare fs
      quantified true e = refused_at Shape place fs e
      quantified false e = subst (AllByRecursion IsBare) (same_given _ fs e) (node_bare _ _ bool_ty tt, tt)
  premise_bare Branch place (head.Builtin op.Or) (a ∷ b ∷ []) d fs e w = subst (AllByRecursion IsBare) (same_given _ fs e) (node_bare _ _ bool_ty tt, (node_bare _ _ bool_ty tt, tt))
  premise_bare r place h ts d fs e w = refused_at Shape place fs e

  forms_bare : (fs : List Term) → AllByRecursion (IsForm c) fs → AllByRecursion IsBare fs
  forms_bare [] w = tt
  forms_bare (f ∷ fs) w = (typed_bare c f (let k = w.0 in k.typed), forms_bare fs w.1)

  parts_bare : (r : AmbientRule) (place : Place) (fs : List Term) → IsTaken c q.conclusion fs ⊎ IsUnder c place r q.conclusion fs → AllByRecursion IsBare fs
  parts_bare r place fs (inl k) = forms_bare fs (let x = k.from in x.typed)
  parts_bare r place fs (inr k) = premise_bare r place (out-Term k.premise).head (out-Term k.premise).args k.rest fs k.parts (formula_bare c k.rest k.formula)

  parts_end : (r : AmbientRule) (place : Place) (qs : List Sequent) → given qs ≡ each_concluding q (parts_of r place q.conclusion) → Ends qs
  parts_end r place qs e = step (parts_of r place q.conclusion) refl e
    where
      step : (x : Answer (List Term)) → parts_of r place q.conclusion ≡ x → given qs ≡ each_concluding q x → Ends qs
      step (given fs) u e = subst Ends (sym (same_given qs (map (concluding q) fs) e)) (all_end fs (parts_bare r place fs (parts_taken c place r q.conclusion t.conclusion fs u)))
      step (refused w p) u e = refused_at w p qs (sym e)

  cases_end : (f : Term) (place : Place) (qs : List Sequent) → given qs ≡ by_cases f place q → Ends qs
  cases_end f place qs e = step (judges_bodies (out-Term q.conclusion).head) e
    where
      step : (b : Bool) → given qs ≡ (if b then refused Shape place else given (concluding q (implies_form f q.conclusion) ∷ concluding q (implies_form (not_form f) q.conclusion) ∷ [])) → Ends qs
      step true e = refused_at Shape place qs (sym e)
      step false e =
          subst Ends (sym (same_given qs _ e))
          (bare_ends ds (concluding q (implies_form f q.conclusion)) (node_bare _ _ bool_ty tt), (bare_ends ds (concluding q (implies_form (not_form f) q.conclusion)) (node_bare _ _ bool_ty tt), tt))

  none_end : (qs : List Sequent) → given qs ≡ given [] → Ends qs
  none_end qs e = subst Ends (sym (same_given qs [] e)) tt

  pub conclusions_end : (r : AmbientRule) → IsTypedStep c q.conclusion r → (place : Place) (qs : List Sequent) → IsAnswer r place q (given qs) → SequentEnds ds q → Ends qs
  conclusions_end Assumption w place qs (inl (m, e)) k = none_end qs e
  conclusions_end Assumption w place qs (inr (m, e)) k = refused_at Shape place qs (sym e)
  conclusions_end (Case f) w place qs e k = cases_end f place qs e
  conclusions_end (Have x f) w place qs e k = subst Ends (sym (same_given qs (concluding q f ∷ assuming q x f ∷ []) e)) (bare_ends ds (concluding q f) (typed_bare c f w.typed), (k, tt))
  conclusions_end (Introduce x) w place qs e k = introduced_end (Introduce x) place _ _ refl refl qs e
  conclusions_end (IntroduceMemory x) w place qs e k = introduced_end (IntroduceMemory x) place _ _ refl refl qs e
  conclusions_end (Witness x) w place qs e k = witness_ends x place _ _ refl refl w qs e
  conclusions_end (WitnessMemory i) w place qs e k = memory_ends i place _ _ refl refl qs e
  conclusions_end Trivial w place qs (inl (m, e)) k = none_end qs e
  conclusions_end Trivial w place qs (inr (m, e)) k = subst Ends (sym (same_given qs (q ∷ []) e)) (k, tt)
  conclusions_end Done w place qs (inl (m, e)) k = none_end qs e
  conclusions_end Done w place qs (inr (m, e)) k = refused_at Shape place qs (sym e)
  conclusions_end Split w place qs e k = parts_end Split place qs e
  conclusions_end Left w place qs e k = parts_end Left place qs e
  conclusions_end Right w place qs e k = parts_end Right place qs e
  conclusions_end Discard w place qs e k = parts_end Discard place qs e
  conclusions_end Unpack w place qs e k = parts_end Unpack place qs e
  conclusions_end Branch w place qs e k = parts_end Branch place qs e
