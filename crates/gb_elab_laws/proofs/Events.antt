-- The event of a typed law of events is typed after the procedure of the first probability.
use Rattle.std.proofs.Common.{◌≡◌, [], Some, None, refl, sym, subst}
use Rattle.gb_core.specs.declared.ty.Ty.TheVariants as ty
use Rattle.gb_terms.specs.declared.module.ProcRef.{ProcRef}
use Rattle.gb_terms.specs.declared.term.Term.{Term}
use Rattle.gb_goal.specs.Scope as scope
use Rattle.gb_goal.specs.Interfaces.{ProcedureType, procedure_type}
use Rattle.gb_goal.specs.declared.sequent.Sequent.{Sequent}
use Rattle.gb_goal.specs.Answers.Answer.{given}
use Rattle.gb_steps.specs.declared.step.EventLaw.{EventLaw}
use Rattle.gb_steps.specs.declared.step.EventLaw.TheVariants.{Split}
use Rattle.gb_steps.specs.declared.step.RewriteRule.TheVariants as rewrite_rule
use Rattle.gb_steps.specs.declared.step.Rule.{Rule}
use Rattle.gb_steps.specs.declared.step.Rule.TheVariants as rule
use Rattle.gb_steps.specs.declared.step.Step.{Step}
use Rattle.gb_script.specs.declared.tree.Node.{Node}
use Rattle.gb_meaning.specs.Declared.{declared}
use Rattle.gb_typing.specs.Context.{Context, procedure, with_own}
use Rattle.gb_typing.specs.Scopes.{context_of, IsTypedScope}
use Rattle.gb_typing.specs.Sequents.{of_sequent, IsTypedSequent}
use Rattle.gb_typing.specs.Typing.{IsForm, IsThere, after}
use Rattle.gb_names.specs.Environment.{ambient, unary}
use Rattle.gb_elab.specs.Forms.{elaborated}
use Rattle.gb_elab_mod.specs.OnPrograms.{result_if}
use Rattle.gb_elab_mod.specs.Steps.{step_given}
use Rattle.gb_elab_laws.proofs.Anew.{fits, result_stands}
use Rattle.gb_elab_laws.proofs.Conditions.{of_by}
use Rattle.gb_elab_laws.proofs.Contracts.{of_call}
use Rattle.gb_elab_laws.proofs.Keeping.{of_entering}
use Rattle.gb_elab_laws.proofs.EventLaws.{BringsNone, of_splitting}
use Rattle.gb_elab_laws.proofs.Fits.{goal_procedure}
use Rattle.gb_elab_laws.proofs.Forms.{elaborated_typed}
use Rattle.gb_elab_laws.proofs.OneProcedure.{condition}
use Rattle.gb_elab_laws.proofs.Steps.{IsOther, of_step}

module _ (ds : scope.Declarations) (scoped : IsTypedScope (declared ds)) (q : Sequent) (t : IsTypedSequent (context_of (declared ds)) q) where
  abbrev here : Context
  here = of_sequent (context_of (declared ds)) q t.frames

  -- a form that is said after a procedure that is there
  pub after_typed : (e : Node) (f : ProcRef) → IsThere (procedure here f) → (u : Term) → elaborated e (unary ds q (result_if (procedure_type ds None f))) [] (Some ty.Bool) ≡ given u →
      IsForm (with_own here (after (procedure here f))) u
  after_typed e f j u h =
      let fit = condition here (ambient ds q) [] (fits ds scoped q t [] []) refl (after (procedure here f)) (result_if (procedure_type ds None f)) (result_stands ds scoped q t [] [] f j (procedure_type ds None f) refl) in
      let z = elaborated_typed e (with_own here (after (procedure here f))) (unary ds q (result_if (procedure_type ds None f))) [] fit (Some ty.Bool) tt u h in
      record { typed = z.typed; truth = z.wanted }

  -- the event that a rule brings is typed
  abbrev HasEvent : Rule → Type 0
  HasEvent (rule.Rewrite (rewrite_rule.Law (Split f u))) = IsForm (with_own here (after (procedure here f))) u
  HasEvent _ = Unit {0}

  without_event : (l : EventLaw) → BringsNone l → HasEvent (rule.Rewrite (rewrite_rule.Law l))
  without_event (Split f u) n = absurd n
  without_event _ n = tt

  others : (k : Rule) → IsOther k → HasEvent k
  others (rule.Rewrite (rewrite_rule.Law l)) i = without_event l i
  others _ i = tt

  -- a procedure that is known by declarations is there
  known_there : (f : ProcRef) → ((p : ProcedureType) × (procedure_type ds None f ≡ Some p)) → IsThere (procedure here f)
  known_there f d = let k = goal_procedure ds scoped q t f d.0 d.1 in subst IsThere (sym k.there) tt

  event_typed : (n : Node) (s : Step) → step_given ds q n ≡ given s → HasEvent s.rule
  event_typed n s h =
      of_step ds q HasEvent others (of_call ds q HasEvent (λ s. tt) (λ a n f e. tt) (λ n f e. tt) (λ m n u e. tt) tt) (of_entering ds q HasEvent (λ a. tt) (λ n f e. tt) tt)
      (λ m n. of_by ds q m n HasEvent (λ b e z g. tt) (λ b e z g. tt) tt)
      (λ e. of_splitting ds q e HasEvent (λ f d u g. after_typed e f (known_there f d) u g) tt) n s h

  pub events_typed : (n : Node) (s : Step) → step_given ds q n ≡ given s → (f : ProcRef) (u : Term) → s.rule ≡ rule.Rewrite (rewrite_rule.Law (Split f u)) → IsForm (with_own here (after (procedure here f))) u
  events_typed n s h f u e = subst HasEvent e (event_typed n s h)
