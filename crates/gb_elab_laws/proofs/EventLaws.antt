-- What typing makes of the laws of events.
use Rattle.std.proofs.Common.{◌≡◌, ℕ, Bool, true, false, if◌then◌else◌, List, [], ◌∷◌, Option, Some, None, refl, subst}
use Rattle.std.specs.Prelude.{bytes_eq, codes}
use Rattle.gb_core.specs.declared.place.Place.{Place}
use Rattle.gb_core.specs.declared.ty.Ty.TheVariants as ty
use Rattle.gb_terms.specs.declared.module.ProcRef.{ProcRef}
use Rattle.gb_terms.specs.declared.op.Rel.{Rel}
use Rattle.gb_terms.specs.declared.op.Rel.TheVariants as rel
use Rattle.gb_terms.specs.declared.term.Term.{Term}
use Rattle.gb_goal.specs.Answers.{Answer, ◌>>=◌, not_built}
use Rattle.gb_goal.specs.Answers.Answer.{given}
use Rattle.gb_goal.specs.Interfaces.{ProcedureType, procedure_type}
use Rattle.gb_goal.specs.Scope.{Declarations}
use Rattle.gb_goal.specs.declared.sequent.Sequent.{Sequent}
use Rattle.gb_script.specs.declared.tree.Node.{Node}
use Rattle.gb_steps.specs.declared.step.BodyRule.TheVariants as on_bodies
use Rattle.gb_steps.specs.declared.step.EventLaw.{EventLaw}
use Rattle.gb_steps.specs.declared.step.EventLaw.TheVariants as event_law
use Rattle.gb_steps.specs.declared.step.ProbabilityRule.TheVariants.{ByEvents, Within}
use Rattle.gb_steps.specs.declared.step.RewriteRule.TheVariants as rewrite_rule
use Rattle.gb_steps.specs.declared.step.Rule.{Rule}
use Rattle.gb_steps.specs.declared.step.Rule.TheVariants as rule
use Rattle.gb_steps.specs.First.{first_procedure}
use Rattle.gb_names.specs.Environment.{unary}
use Rattle.gb_elab.specs.Forms.{elaborated}
use Rattle.gb_elab_mod.specs.OnPrograms.{result_if}
use Rattle.gb_elab_mod.specs.Steps.{event_law_rule, if_there, splitting_rule}
use Rattle.gb_elab_laws.proofs.Given.{given_bind, given_is}

-- a law that brings no event
abbrev pub BringsNone : EventLaw → Type 0
BringsNone (event_law.Split f e) = ⊥
BringsNone l = Unit {0}

-- a law without an event, by its name
module _ (P : Rule → Type 0) (laws : (l : EventLaw) → BringsNone l → P (rule.Rewrite (rewrite_rule.Law l)))
    (by_events : (r : Rel) → P (rule.Probability (ByEvents r))) (within : (r : Rel) → P (rule.Probability (Within r))) where
  -- the first of these that is chosen, else none
  abbrev chosen_of : List (Bool × Rule) → Place → Answer Rule
  chosen_of [] p = not_built p
  chosen_of (x ∷ xs) p = if x.0 then given x.1 else chosen_of xs p

  abbrev AllHold : List (Bool × Rule) → Type 0
  AllHold [] = Unit {0}
  AllHold (x ∷ xs) = P x.1 × AllHold xs

  chosen_holds : (xs : List (Bool × Rule)) (p : Place) (k : Rule) → AllHold xs → chosen_of xs p ≡ given k → P k
  chosen_holds [] p k w h = cc
  chosen_holds ((true, r) ∷ xs) p k w h = subst P (given_is r k h) w.0
  chosen_holds ((false, r) ∷ xs) p k w h = chosen_holds xs p k w.1 h

  pub of_event_law : (x : List ℕ) (p : Place) (k : Rule) → event_law_rule x p ≡ given k → P k
  of_event_law x p k h =
      chosen_holds
      ((bytes_eq x (codes "mu_or"), rule.Rewrite (rewrite_rule.Law event_law.Or))
      ∷ (bytes_eq x (codes "mu_not"), rule.Rewrite (rewrite_rule.Law event_law.Not))
      ∷ (bytes_eq x (codes "mu_false"), rule.Rewrite (rewrite_rule.Law event_law.False))
      ∷ (bytes_eq x (codes "mu_eq"), rule.Probability (ByEvents rel.Equal))
      ∷ (bytes_eq x (codes "mu_sub"), rule.Probability (ByEvents rel.AtMost))
      ∷ (bytes_eq x (codes "mu_ge0"), rule.Probability (Within rel.AtLeast))
      ∷ (bytes_eq x (codes "mu_le1"), rule.Probability (Within rel.AtMost)) ∷ [])
      p
      k
      (laws event_law.Or tt, (laws event_law.Not tt, (laws event_law.False tt, (by_events rel.Equal, (by_events rel.AtMost, (within rel.AtLeast, (within rel.AtMost, tt)))))))
      h

-- `mu_split` with an event that is said after the first procedure of the conclusion, which is there, or a step that fits no goal
module _ (ds : Declarations) (q : Sequent) (e : Node) (P : Rule → Type 0)
    (split : (f : ProcRef) → ((p : ProcedureType) × (procedure_type ds None f ≡ Some p)) → (u : Term) → elaborated e (unary ds q (result_if (procedure_type ds None f))) [] (Some ty.Bool) ≡ given u →
    P (rule.Rewrite (rewrite_rule.Law (event_law.Split f u))))
    (unfit : P (rule.OnBodies on_bodies.Unfit)) where
  -- the event after this procedure
  abbrev event : ProcRef → Answer Term
  event f = elaborated e (unary ds q (result_if (procedure_type ds None f))) [] (Some ty.Bool)

  abbrev divided : ProcRef → Term → Rule
  divided f u = rule.Rewrite (rewrite_rule.Law (event_law.Split f u))

  by_known : (f : ProcRef) (o : Option ProcedureType) → procedure_type ds None f ≡ o → (k : Rule) → if_there o (event f >>= λ u. given (divided f u)) ≡ given k → P k
  by_known f None i k h = subst P (given_is (rule.OnBodies on_bodies.Unfit) k h) unfit
  by_known f (Some p) i k h =
      let x = given_bind (event f) (λ u. given (divided f u)) k h in
      subst P (given_is (divided f x.0) k x.2) (split f (p, i) x.0 x.1)

  by_first : (o : Option ProcRef) (k : Rule) → splitting_rule ds q e o ≡ given k → P k
  unfolding splitting_rule
  by_first None k h = subst P (given_is (rule.OnBodies on_bodies.Unfit) k h) unfit
  by_first (Some f) k h = by_known f (procedure_type ds None f) refl k h

  pub of_splitting : (k : Rule) → splitting_rule ds q e (first_procedure q.conclusion) ≡ given k → P k
  of_splitting k h = by_first (first_procedure q.conclusion) k h
