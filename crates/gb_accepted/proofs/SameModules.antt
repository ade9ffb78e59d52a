-- Steps on conclusions, by known forms and by equations lead to goals over the same modules.
use Rattle.std.proofs.Common.{◌≡◌, inl, inr, ℕ, Bool, true, false, if◌then◌else◌, List, [], ◌∷◌, map, Option, Some, None, refl, sym, subst}
use Rattle.std.specs.List.{AllByRecursion, slice_get}
use Rattle.std.specs.Option.{option_map}
use Rattle.gb_core.specs.declared.place.Place.{Place}
use Rattle.gb_core.specs.declared.refusal.Why.TheVariants.{Shape}
use Rattle.gb_terms.specs.declared.op.Op.TheVariants as op
use Rattle.gb_terms.specs.declared.term.Head.{Head}
use Rattle.gb_terms.specs.declared.term.Head.TheVariants as head
use Rattle.gb_terms.specs.declared.term.Term.{Term, out-Term}
use Rattle.gb_walk.specs.declared.change.Change.TheVariants.{OfBound}
use Rattle.gb_walk.specs.Change.{term_changed}
use Rattle.gb_goal.specs.Answers.{Answer}
use Rattle.gb_goal.specs.Answers.Answer.{given, refused}
use Rattle.gb_goal.specs.Goal.{judges_bodies}
use Rattle.gb_goal.specs.Scope.{Declarations}
use Rattle.gb_goal.specs.declared.sequent.Hyp.{Hyp}
use Rattle.gb_goal.specs.declared.sequent.Sequent.{Sequent}
use Rattle.gb_steps.specs.declared.step.AmbientRule.{AmbientRule}
use Rattle.gb_steps.specs.declared.step.AmbientRule.TheVariants as conclusion
use Rattle.gb_steps.specs.declared.step.EventLaw.{EventLaw}
use Rattle.gb_steps.specs.declared.step.RewriteRule.{RewriteRule}
use Rattle.gb_steps.specs.declared.step.RewriteRule.TheVariants.{Forward, Back, Subst, Unfold, Law}
use Rattle.gb_steps.specs.declared.step.UseRule.{UseRule}
use Rattle.gb_steps.specs.declared.step.UseRule.TheVariants as use_rule
use Rattle.gb_meaning.specs.Names.{Name}
use Rattle.gb_eval.specs.Script.{body_named}
use Rattle.gb_typing.specs.Forms.{implies_form, not_form}
use Rattle.gb_typing.proofs.Given.{refused_at, same_given}
use Rattle.gb_amb.specs.Introduced.{introduced_at, unless_modules, with_memory, with_premise, with_variable}
use Rattle.gb_amb.specs.Parts.{concluding, each_concluding, parts_of}
use Rattle.gb_amb.specs.Quantified.{goal_quantifies_modules, quantifies_modules}
use Rattle.gb_amb.specs.Steps.{IsAnswer, assuming, by_cases}
use Rattle.gb_amb.specs.Witness.{at_memory, memory_witnessed_at, witnessed_at}
use Rattle.gb_amb.specs.Uses as uses
use Rattle.gb_rewrite.specs.Equations.{Pair, equation_of, equivalence_of, exchanged, used_up_of}
use Rattle.gb_rewrite.specs.Events.{by_first}
use Rattle.gb_rewrite.specs.Rewriting.{by_event_law, concluding_by, opening_by, rewrite_answer, rewriting, unfolded_everywhere, using_up, using_up_hypothesis, without}
use Rattle.gb_rewrite.specs.Rewritten.{rewritten, stands}
use Rattle.gb_rewrite.specs.Unfolded.{names}

-- goals over the modules of this one
abbrev pub HaveSameModules : Sequent → List Sequent → Type 0
HaveSameModules q qs = AllByRecursion (λ (p : Sequent). p.modules ≡ q.modules) qs

module _ (q : Sequent) where
  abbrev Same : List Sequent → Type 0
  Same qs = HaveSameModules q qs

  pub none_same : (qs : List Sequent) → given qs ≡ given [] → Same qs
  none_same qs e = subst Same (sym (same_given qs [] e)) tt

  one_same : (r : Sequent) → r.modules ≡ q.modules → (qs : List Sequent) → given qs ≡ given (r ∷ []) → Same qs
  one_same r k qs e = subst Same (sym (same_given qs (r ∷ []) e)) (k, tt)

  -- Steps on conclusions.

  unless_same : (place : Place) (wider : Sequent) → wider.modules ≡ q.modules → (qs : List Sequent) → given qs ≡ unless_modules place q wider → Same qs
  unless_same place wider k qs e = step (goal_quantifies_modules q) e
    where
      step : (b : Bool) → given qs ≡ (if b then refused Shape place else given (wider ∷ [])) → Same qs
      step true e = refused_at Shape place qs (sym e)
      step false e = one_same wider k qs e

  introduced_same : (r : AmbientRule) (place : Place) (h : Head) (ts : List Term) (qs : List Sequent) → given qs ≡ introduced_at r place q h ts → Same qs
  introduced_same (conclusion.Introduce x) place (head.All u) (f ∷ []) qs e = unless_same place (with_variable q x u f) refl qs e
  introduced_same (conclusion.Introduce x) place (head.Builtin op.Implies) (a ∷ f ∷ []) qs e = one_same (with_premise q x a f) refl qs e
  introduced_same (conclusion.IntroduceMemory x) place head.AllMemory (f ∷ []) qs e = unless_same place (with_memory q x f) refl qs e
  introduced_same r place h ts qs e = refused_at Shape place qs (sym e)

  witness_same : (x : Term) (place : Place) (h : Head) (ts : List Term) (qs : List Sequent) → given qs ≡ witnessed_at x place q h ts → Same qs
  witness_same x place (head.Some u) (f ∷ []) qs e = one_same (concluding q (term_changed f (OfBound 0 x ∷ []))) refl qs e
  witness_same x place h ts qs e = refused_at Shape place qs (sym e)

  memory_same : (i : ℕ) (place : Place) (h : Head) (ts : List Term) (qs : List Sequent) → given qs ≡ memory_witnessed_at i place q h ts → Same qs
  memory_same i place head.SomeMemory (f ∷ []) qs e = one_same (concluding q (at_memory f i)) refl qs e
  memory_same i place h ts qs e = refused_at Shape place qs (sym e)

  -- the goal with other conclusions
  all_same : (fs : List Term) → Same (map (concluding q) fs)
  all_same [] = tt
  all_same (f ∷ fs) = (refl, all_same fs)

  parts_same : (a : Answer (List Term)) (qs : List Sequent) → given qs ≡ each_concluding q a → Same qs
  parts_same (given fs) qs e = subst Same (sym (same_given qs (map (concluding q) fs) e)) (all_same fs)
  parts_same (refused w p) qs e = refused_at w p qs (sym e)

  cases_same : (f : Term) (place : Place) (qs : List Sequent) → given qs ≡ by_cases f place q → Same qs
  cases_same f place qs e = step (judges_bodies (out-Term q.conclusion).head) e
    where
      step : (b : Bool) → given qs ≡ (if b then refused Shape place else given (concluding q (implies_form f q.conclusion) ∷ concluding q (implies_form (not_form f) q.conclusion) ∷ [])) → Same qs
      step true e = refused_at Shape place qs (sym e)
      step false e = subst Same (sym (same_given qs _ e)) (refl, (refl, tt))

  pub conclusions_same : (r : AmbientRule) (place : Place) (qs : List Sequent) → IsAnswer r place q (given qs) → Same qs
  conclusions_same conclusion.Assumption place qs (inl (m, e)) = none_same qs e
  conclusions_same conclusion.Assumption place qs (inr (m, e)) = refused_at Shape place qs (sym e)
  conclusions_same (conclusion.Case f) place qs e = cases_same f place qs e
  conclusions_same (conclusion.Have x f) place qs e = subst Same (sym (same_given qs (concluding q f ∷ assuming q x f ∷ []) e)) (refl, (refl, tt))
  conclusions_same (conclusion.Introduce x) place qs e = introduced_same (conclusion.Introduce x) place _ _ qs e
  conclusions_same (conclusion.IntroduceMemory x) place qs e = introduced_same (conclusion.IntroduceMemory x) place _ _ qs e
  conclusions_same (conclusion.Witness x) place qs e = witness_same x place _ _ qs e
  conclusions_same (conclusion.WitnessMemory i) place qs e = memory_same i place _ _ qs e
  conclusions_same conclusion.Trivial place qs (inl (m, e)) = none_same qs e
  conclusions_same conclusion.Trivial place qs (inr (m, e)) = one_same q refl qs e
  conclusions_same conclusion.Done place qs (inl (m, e)) = none_same qs e
  conclusions_same conclusion.Done place qs (inr (m, e)) = refused_at Shape place qs (sym e)
  conclusions_same conclusion.Split place qs e = parts_same (parts_of conclusion.Split place q.conclusion) qs e
  conclusions_same conclusion.Left place qs e = parts_same (parts_of conclusion.Left place q.conclusion) qs e
  conclusions_same conclusion.Right place qs e = parts_same (parts_of conclusion.Right place q.conclusion) qs e
  conclusions_same conclusion.Discard place qs e = parts_same (parts_of conclusion.Discard place q.conclusion) qs e
  conclusions_same conclusion.Unpack place qs e = parts_same (parts_of conclusion.Unpack place q.conclusion) qs e
  conclusions_same conclusion.Branch place qs e = parts_same (parts_of conclusion.Branch place q.conclusion) qs e

  -- Steps that use a known form.

  pub uses_same : (r : UseRule) (place : Place) (qs : List Sequent) → uses.IsAnswer r place q (given qs) → Same qs
  uses_same (use_rule.Apply f) place qs (inl (hs, p, e)) = subst Same (sym (same_given qs (map (concluding q) hs) e)) (all_same hs)
  uses_same (use_rule.Apply f) place qs (inr (n, e)) = refused_at Shape place qs (sym e)
  uses_same (use_rule.Have x f) place qs e = one_same (assuming q x f) refl qs e

  -- Steps that put equals for equals.

  rewriting_same : (place : Place) (o : Option Pair) (qs : List Sequent) → given qs ≡ rewriting place q o → Same qs
  rewriting_same place None qs e = refused_at Shape place qs (sym e)
  rewriting_same place (Some p) qs e = step (quantifies_modules q.conclusion) (stands p.0 q.conclusion) e
    where
      step : (b z : Bool) → given qs ≡ (if b then refused Shape place else if z then given (concluding q (rewritten p.0 p.1 q.conclusion) ∷ []) else refused Shape place) → Same qs
      step true z e = refused_at Shape place qs (sym e)
      step false true e = one_same (concluding q (rewritten p.0 p.1 q.conclusion)) refl qs e
      step false false e = refused_at Shape place qs (sym e)

  using_up_same : (i : ℕ) (place : Place) (o : Option Pair) (qs : List Sequent) → given qs ≡ using_up i place q o → Same qs
  using_up_same i place None qs e = refused_at Shape place qs (sym e)
  using_up_same i place (Some p) qs e = step (goal_quantifies_modules q) e
    where
      step : (b : Bool) → given qs ≡ (if b then refused Shape place else given (without i q p ∷ [])) → Same qs
      step true e = refused_at Shape place qs (sym e)
      step false e = one_same (without i q p) refl qs e

  hypothesis_same : (i : ℕ) (place : Place) (o : Option Hyp) (qs : List Sequent) → given qs ≡ using_up_hypothesis i place q o → Same qs
  hypothesis_same i place None qs e = refused_at Shape place qs (sym e)
  hypothesis_same i place (Some h) qs e = using_up_same i place (used_up_of (equation_of h.form)) qs e

  opening_same : (x : Name) (place : Place) (o : Option Term) (qs : List Sequent) → given qs ≡ opening_by x place q o → Same qs
  opening_same x place None qs e = refused_at Shape place qs (sym e)
  opening_same x place (Some b) qs e = step (quantifies_modules q.conclusion) (names x q.conclusion) e
    where
      step : (z v : Bool) → given qs ≡ (if z then refused Shape place else if v then given (concluding q (unfolded_everywhere x b q.conclusion) ∷ []) else refused Shape place) → Same qs
      step true v e = refused_at Shape place qs (sym e)
      step false true e = one_same (concluding q (unfolded_everywhere x b q.conclusion)) refl qs e
      step false false e = refused_at Shape place qs (sym e)

  concluded_same : (place : Place) (o : Option Term) (qs : List Sequent) → given qs ≡ concluding_by place q o → Same qs
  concluded_same place None qs e = refused_at Shape place qs (sym e)
  concluded_same place (Some f) qs e = one_same (concluding q f) refl qs e

  law_same : (ds : Declarations) (l : EventLaw) (place : Place) (qs : List Sequent) → given qs ≡ by_event_law ds l place q → Same qs
  law_same ds l place qs e = step (quantifies_modules q.conclusion) e
    where
      step : (b : Bool) → given qs ≡ (if b then refused Shape place else concluding_by place q (by_first ds l q.conclusion)) → Same qs
      step true e = refused_at Shape place qs (sym e)
      step false e = concluded_same place (by_first ds l q.conclusion) qs e

  pub equals_same : (ds : Declarations) (r : RewriteRule) (place : Place) (qs : List Sequent) → given qs ≡ rewrite_answer ds r place q → Same qs
  equals_same ds (Forward f) place qs e = rewriting_same place (equivalence_of f) qs e
  equals_same ds (Back f) place qs e = rewriting_same place (option_map exchanged (equivalence_of f)) qs e
  equals_same ds (Subst i) place qs e = hypothesis_same i place (slice_get q.hyps i) qs e
  equals_same ds (Unfold x) place qs e = opening_same x place (body_named ds x) qs e
  equals_same ds (Law l) place qs e = law_same ds l place qs e
