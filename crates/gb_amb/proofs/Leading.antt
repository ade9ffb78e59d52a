-- Goals that lead to a goal: its parts, and the goal with what stands in front taken into the context.
use Rattle.std.proofs.Common.{◌≡◌, ◌⊎◌, inl, inr, ℕ, Some, Bool, true, false, if◌then◌else◌, List, [], ◌∷◌, ◌++◌, map, refl, ap, sym, ◌∙◌, subst}
use Rattle.std.specs.List.{AllByRecursion}
use Rattle.gb_core.specs.declared.place.Place.{Place}
use Rattle.gb_core.specs.declared.refusal.Why.TheVariants.{Shape}
use Rattle.gb_terms.specs.declared.op.Op.TheVariants as op
use Rattle.gb_terms.specs.declared.term.Term.{Term, Term', end_of-Head, more_of-Head, out-Term}
use Rattle.gb_terms.specs.declared.term.Head.{Head}
use Rattle.gb_terms.specs.declared.term.Head.TheVariants as head
use Rattle.gb_terms.specs.declared.term.Head.TheVariants.{Body'}
use Rattle.gb_terms.specs.Make.{node}
use Rattle.gb_goal.specs.Answers.{nowhere}
use Rattle.gb_meaning.proofs.Nodes.{each_is_node}
use Rattle.gb_typing.specs.Formulas.{IsFormula}
use Rattle.gb_typing.specs.Sequents.{with_modules}
use Rattle.gb_typing.proofs.Lifted.{sequent_outermost}
use Rattle.gb_amb.specs.Quantified.{goal_quantifies_modules}
use Rattle.gb_amb.specs.Introduced.{unless_modules, with_premise}
use Rattle.gb_amb.proofs.Premises.{Follows, premise_follows}
use Rattle.gb_amb.proofs.Wider.{small}
use Rattle.gb_goal.specs.Answers.{Answer}
use Rattle.gb_goal.specs.Answers.Answer.{given, refused}
use Rattle.gb_goal.specs.declared.sequent.Hyp.{Hyp}
use Rattle.gb_goal.specs.declared.sequent.Sequent.{Sequent}
use Rattle.gb_steps.specs.declared.step.AmbientRule.{AmbientRule}
use Rattle.gb_steps.specs.declared.step.AmbientRule.TheVariants.{Discard}
use Rattle.gb_meaning.specs.State.{State}
use Rattle.gb_meaning.specs.Judgments.{Judge, IsFair, IsTrueUnder}
use Rattle.gb_meaning.specs.Declared.{Declarations}
use Rattle.gb_meaning.specs.Settings.{Interpretation, setting}
use Rattle.gb_meaning.specs.Truth.{has_module, Truth}
use Rattle.gb_meaning.specs.Holds.{AreTrue}
use Rattle.gb_meaning.proofs.Fronts.{without_modules}
use Rattle.gb_typing.specs.Context.{Context}
use Rattle.gb_typing.specs.Typing.{IsForm}
use Rattle.gb_typing.specs.Sequents.{IsConclusion, IsTypedSequent}
use Rattle.gb_typing.specs.Scopes.{context_of, IsTypedScope}
use Rattle.gb_typing.proofs.Sound.{procedures_sound, sound_form}
use Rattle.gb_typing.specs.Forms.{implies_form, not_form}
use Rattle.gb_goal.specs.Goal.Goal.{ambient}
use Rattle.gb_typing.proofs.TypedGoals.{goal_conclusion, goal_front}
use Rattle.gb_typing.proofs.Forms.{not_typed}
use Rattle.gb_typing.proofs.Given.{refused_at, same_given}
use Rattle.gb_goal.specs.Goal.{judges_bodies}
use Rattle.gb_amb.specs.Parts.{concluding, each_concluding, by_shape, parts_of, by_parts}
use Rattle.gb_amb.specs.Closed.{IsAmong}
use Rattle.gb_amb.specs.Steps.{assuming, by_cases, LeadTo}
use Rattle.gb_amb.proofs.Around.{Part, here, placed, hypotheses_with, IsTypedPart, IsTruePart, parts_lead}
use Rattle.gb_amb.proofs.Cases.{conclusion_formula, implication_made, implication_typed, cases_used}
use Rattle.gb_amb.proofs.Taken.{IsTaken, IsUnder, implies_under, is_implies, parts_taken}

-- a form among hypotheses is true where they are
module _ (ds : Declarations) (k : Interpretation) (s : State) where
  pub assumed_true : (hs : List Hyp) (f : Term) → IsAmong hs f → AreTrue ds hs k s → Truth ds f k s
  assumed_true [] f m h = absurd m
  assumed_true (x ∷ hs) f (inl e) h = subst (λ f. Truth ds f k s) e h.0
  assumed_true (x ∷ hs) f (inr m) h = assumed_true hs f m h.1

  all_true : (hs : List Hyp) (name : List ℕ) (f : Term) → AreTrue ds hs k s → Truth ds f k s → AreTrue ds (hs ++ record { name = name; form = f } ∷ []) k s
  all_true [] name f h t = (t, tt)
  all_true (x ∷ hs) name f h t = (h.0, all_true hs name f h.1 t)

form_conclusion : (c : Context) (f : Term) → IsForm c f → IsConclusion c f
form_conclusion c f w = goal_conclusion c [] [] (ambient f) w

pub form_front : (c : Context) (f : Term) → IsForm c f → has_module f ≡ false
form_front c f w = goal_front c [] [] (ambient f) w

-- a formula is a conclusion
formula_conclusion : (c : Context) (f : Term) → IsFormula c f → IsConclusion c f
formula_conclusion c (Term' a (more_of-Head (head.Hoare (Body' k is)) end_of-Head) n ts t) w = absurd w.typed.1
formula_conclusion c (Term' a (more_of-Head (head.Phoare (Body' k is) r) end_of-Head) n ts t) w = absurd w.typed.1
formula_conclusion c (Term' a (more_of-Head (head.Equiv (Body' k is) (Body' l js)) end_of-Head) n ts t) w = absurd w.typed.1.0
formula_conclusion c f w = w

module _ (ds : Declarations) (scope : IsTypedScope ds) (q : Sequent) (t : IsTypedSequent (context_of ds) q) where
  abbrev pub c : Context
  c = here ds scope q t

  -- the conclusions that a goal follows from, in its context and under its hypotheses
  abbrev part_of : Term → Part
  part_of f = record { hyps = q.hyps; conclusion = f }

  pub nothing_left : (qs : List Sequent) → [] ≡ qs → LeadTo ds q [] → LeadTo ds q qs
  nothing_left qs e l = subst (LeadTo ds q) e l

  pub by_assumption : IsAmong q.hyps q.conclusion → LeadTo ds q []
  by_assumption m = parts_lead ds scope q t [] tt (λ k fits s fit x h. assumed_true ds k s q.hyps q.conclusion m h)

  -- the parts of a form
  typed_forms : (fs : List Term) → AllByRecursion (IsForm c) fs → AllByRecursion (IsTypedPart ds scope q t) (map part_of fs)
  typed_forms [] w = tt
  typed_forms (f ∷ fs) w = ((t.hyps, form_conclusion c f w.0), typed_forms fs w.1)

  true_forms : (k : Interpretation) (s : State) (fs : List Term) → AllByRecursion (IsForm c) fs → AllByRecursion (IsTruePart ds scope q t k s) (map part_of fs) → AreTrue ds q.hyps k s →
      (j : Judge) → IsFair (setting ds k) j → AllByRecursion (λ a. IsTrueUnder (setting ds k) j a s) fs
  true_forms k s [] w x h j fair = tt
  true_forms k s (f ∷ fs) w x h j fair =
      ((without_modules ds f k s (form_front c f w.0)).0 (x.0 h) j fair, true_forms k s fs w.1 x.1 h j fair)

  same_goals : (fs : List Term) → map (placed ds scope q t) (map part_of fs) ≡ map (concluding q) fs
  same_goals [] = refl
  same_goals (f ∷ fs) = ap (λ qs. concluding q f ∷ qs) (same_goals fs)

  of_taken : (fs : List Term) → IsTaken c q.conclusion fs → LeadTo ds q (map (concluding q) fs)
  of_taken fs k =
      subst (LeadTo ds q) (same_goals fs)
      (parts_lead ds scope q t (map part_of fs) (typed_forms fs k.from.typed)
      (λ i fits s fit x h. (without_modules ds q.conclusion i s (form_front c q.conclusion k.form)).1
      (λ j fair. k.from.implied (setting ds i) j s fits fit (true_forms i s fs k.from.typed x h j fair))))

  -- the parts by a premise
  pub here_small : c ≡ small (with_modules (context_of ds) q.modules) (map (λ x. x.ty) q.logical) (map (λ l. Some l) t.frames)
  here_small = sequent_outermost ds q t.frames

  typed_parts : (fs : List Term) → AllByRecursion (IsConclusion c) fs → AllByRecursion (IsTypedPart ds scope q t) (map part_of fs)
  typed_parts [] w = tt
  typed_parts (f ∷ fs) w = ((t.hyps, w.0), typed_parts fs w.1)

  true_parts : (k : Interpretation) (s : State) (fs : List Term) → AllByRecursion (IsTruePart ds scope q t k s) (map part_of fs) → AreTrue ds q.hyps k s → AllByRecursion (λ a. Truth ds a k s) fs
  true_parts k s [] x h = tt
  true_parts k s (f ∷ fs) x h = (x.0 h, true_parts k s fs x.1 h)

  pub of_following : (f : Term) (fs : List Term) → q.conclusion ≡ f → Follows ds c f fs → LeadTo ds q (map (concluding q) fs)
  of_following f fs is k =
      subst (LeadTo ds q) (same_goals fs)
      (parts_lead ds scope q t (map part_of fs) (typed_parts fs k.typed)
      (λ i fits s fit x h. subst (λ z. Truth ds z i s) (sym is) (k.leads i fits s fit (true_parts i s fs x h))))

  of_under : (r : AmbientRule) (place : Place) (fs : List Term) → IsUnder c place r q.conclusion fs → LeadTo ds q (map (concluding q) fs)
  of_under r place fs k =
      of_following (implies_form k.premise k.rest) fs k.is
      (subst (λ d. IsFormula d k.rest → IsForm d k.premise → Follows ds d (implies_form k.premise k.rest) fs) (sym here_small)
      (λ v w. premise_follows ds (with_modules (context_of ds) q.modules) (map (λ x. x.ty) q.logical) (map (λ l. Some l) t.frames) k.rest v place (formula_conclusion (small (with_modules (context_of ds) q.modules) (map (λ x. x.ty) q.logical) (map (λ l. Some l) t.frames)) k.rest v) r k.premise w fs k.parts) k.formula k.form)

  of_parts : (r : AmbientRule) (place : Place) (fs : List Term) → IsTaken c q.conclusion fs ⊎ IsUnder c place r q.conclusion fs → LeadTo ds q (map (concluding q) fs)
  of_parts r place fs (inl k) = of_taken fs k
  of_parts r place fs (inr k) = of_under r place fs k

  pub by_its_parts : (r : AmbientRule) (place : Place) (qs : List Sequent) → given qs ≡ by_parts r place q → LeadTo ds q qs
  by_its_parts r place qs e = step (parts_of r place q.conclusion) refl e
    where
      step : (x : Answer (List Term)) → parts_of r place q.conclusion ≡ x → given qs ≡ each_concluding q x → LeadTo ds q qs
      step (given fs) u e = subst (LeadTo ds q) (sym (same_given qs (map (concluding q) fs) e)) (of_parts r place fs (parts_taken c place r q.conclusion t.conclusion fs u))
      step (refused w p) u e = refused_at w p qs (sym e)

  abbrev both_cases : Term → List Sequent
  both_cases f = concluding q (implies_form f q.conclusion) ∷ concluding q (implies_form (not_form f) q.conclusion) ∷ []

  by_two_cases : (f : Term) → IsForm c f → judges_bodies (out-Term q.conclusion).head ≡ false → LeadTo ds q (both_cases f)
  by_two_cases f w e =
      let v = conclusion_formula c q.conclusion t.conclusion e in
      parts_lead ds scope q t (part_of (implies_form f q.conclusion) ∷ part_of (implies_form (not_form f) q.conclusion) ∷ [])
      ((t.hyps, implication_typed c f w q.conclusion v), ((t.hyps, implication_typed c (not_form f) (not_typed c f w) q.conclusion v), tt))
      (λ k fits s fit x h. cases_used ds k s f q.conclusion (sound_form (setting ds k) c (procedures_sound c (setting ds k) fits) f w.typed) (x.0 h) (x.1.0 h))

  pub of_cases : (f : Term) → IsForm c f → (place : Place) (qs : List Sequent) → given qs ≡ by_cases f place q → LeadTo ds q qs
  of_cases f w place qs e = step (judges_bodies (out-Term q.conclusion).head) refl e
    where
      step : (b : Bool) → judges_bodies (out-Term q.conclusion).head ≡ b → given qs ≡ (if b then refused Shape place else given (both_cases f)) → LeadTo ds q qs
      step true u e = refused_at Shape place qs (sym e)
      step false u e = subst (LeadTo ds q) (sym (same_given qs (both_cases f) e)) (by_two_cases f w u)

  pub by_cut : (name : List ℕ) (f : Term) → IsForm c f → LeadTo ds q (concluding q f ∷ assuming q name f ∷ [])
  by_cut name f w =
      parts_lead ds scope q t (part_of f ∷ record { hyps = q.hyps ++ record { name = name; form = f } ∷ []; conclusion = q.conclusion } ∷ [])
      ((t.hyps, form_conclusion c f w), ((hypotheses_with c q.hyps name f t.hyps w, t.conclusion), tt))
      (λ k fits s fit x h. x.1.0 (all_true ds k s q.hyps name f h (x.0 h)))

  -- What stands in front of the conclusion, taken into the context.

  abbrev first_of : Term → List Term → Term
  first_of d [] = d
  first_of d (x ∷ xs) = x

  abbrev second_of : Term → List Term → Term
  second_of d [] = d
  second_of d (x ∷ xs) = first_of d xs

  pub premise_taken : (name : List ℕ) (a f : Term) → (out-Term q.conclusion).head ≡ head.Builtin op.Implies → (out-Term q.conclusion).args ≡ a ∷ f ∷ [] → LeadTo ds q (with_premise q name a f ∷ [])
  premise_taken name a f h e =
      let k = implies_under c nowhere q.conclusion t.conclusion (ap is_implies h) (f ∷ []) (λ i. by_shape Discard nowhere (h i) (e i)) in
      let args = sym k.args ∙ e in
      subst (λ x. LeadTo ds q (with_premise q name x f ∷ [])) (ap (first_of a) args)
      (subst (λ x. LeadTo ds q (with_premise q name k.premise x ∷ [])) (ap (second_of a) args)
      (parts_lead ds scope q t (record { hyps = q.hyps ++ record { name = name; form = k.premise } ∷ []; conclusion = k.rest } ∷ [])
      ((hypotheses_with c q.hyps name k.premise t.hyps k.form, formula_conclusion c k.rest k.formula), tt)
      (λ i fits s fit x hyps. subst (λ z. Truth ds z i s) (sym k.is)
      (implication_made ds i s k.premise k.rest (sound_form (setting ds i) c (procedures_sound c (setting ds i) fits) k.premise (let w = k.form in w.typed))
      (λ p. x.0 (all_true ds i s q.hyps name k.premise hyps
      ((without_modules ds k.premise i s (form_front c k.premise k.form)).1 p)))))))

  pub unless : (place : Place) (wider : Sequent) (qs : List Sequent) → given qs ≡ unless_modules place q wider → (goal_quantifies_modules q ≡ false → LeadTo ds q (wider ∷ [])) → LeadTo ds q qs
  unless place wider qs e f = step (goal_quantifies_modules q) refl e
    where
      step : (b : Bool) → goal_quantifies_modules q ≡ b → given qs ≡ (if b then refused Shape place else given (wider ∷ [])) → LeadTo ds q qs
      step true u e = refused_at Shape place qs (sym e)
      step false u e = subst (LeadTo ds q) (sym (same_given qs (wider ∷ []) e)) (f u)

  pub node_is : (h : Head) (ts : List Term) → (out-Term q.conclusion).head ≡ h → (out-Term q.conclusion).args ≡ ts → q.conclusion ≡ node h ts (out-Term q.conclusion).ty
  node_is h ts u v = each_is_node q.conclusion ∙ (λ i. node (u i) (v i) (out-Term q.conclusion).ty)
