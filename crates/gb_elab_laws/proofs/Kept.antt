-- What a step says that oracles keep is typed, and reads no locals of the programs.
use Rattle.std.proofs.Common.{◌≡◌, List, [], Some, refl, subst}
use Rattle.gb_core.specs.declared.ty.Ty.TheVariants as ty
use Rattle.gb_terms.specs.declared.decl.TypedName.{TypedName}
use Rattle.gb_terms.specs.declared.term.Term.{Term}
use Rattle.gb_goal.specs.Scope as scope
use Rattle.gb_goal.specs.Goal.{Goal, goal_of}
use Rattle.gb_goal.specs.Goal.Goal.{hoare, phoare, equiv, ambient as other_form}
use Rattle.gb_goal.specs.declared.sequent.Sequent.{Sequent}
use Rattle.gb_goal.specs.Answers.Answer.{given}
use Rattle.gb_steps.specs.declared.step.AbstractRule.{AbstractRule}
use Rattle.gb_steps.specs.declared.step.Rule.{Rule}
use Rattle.gb_steps.specs.declared.step.Rule.TheVariants as rule
use Rattle.gb_steps.specs.declared.step.Step.{Step}
use Rattle.gb_steps.specs.declared.step.Until.{Until}
use Rattle.gb_script.specs.declared.tree.Node.{Node}
use Rattle.gb_meaning.specs.Declared.{declared}
use Rattle.gb_typing.specs.Context.{Context}
use Rattle.gb_typing.specs.Scopes.{context_of, IsTypedScope}
use Rattle.gb_typing.specs.Sequents.{of_sequent, one, two, IsTypedSequent}
use Rattle.gb_typing.specs.Typing.{IsForm}
use Rattle.gb_names.specs.Environment.{ambient, relational, unary}
use Rattle.gb_elab.specs.Forms.{elaborated}
use Rattle.gb_elab_mod.specs.OnPrograms.{kept_of, until_of}
use Rattle.gb_elab_mod.specs.Steps.{step_given}
use Rattle.gb_adv.specs.Oracles.{IsTypedKept}
use Rattle.gb_adv.specs.Rows.{IsTypedRule}
use Rattle.gb_adv.specs.Until.{IsTypedUntil}
use Rattle.gb_elab_laws.proofs.Anew.{fits, no_locals}
use Rattle.gb_elab_laws.proofs.Conditions.{of_by}
use Rattle.gb_elab_laws.proofs.Contracts.{of_call}
use Rattle.gb_elab_laws.proofs.EventLaws.{of_splitting}
use Rattle.gb_elab_laws.proofs.Forms.{elaborated_typed}
use Rattle.gb_elab_laws.proofs.Given.{given_bind, given_is, same_some}
use Rattle.gb_elab_laws.proofs.Judged.{condition as conditions}
use Rattle.gb_elab_laws.proofs.Keeping.{IsKept, IsUntil, of_entering}
use Rattle.gb_elab_laws.proofs.OneProcedure.{condition}
use Rattle.gb_elab_laws.proofs.Steps.{IsOther, of_step}

module _ (ds : scope.Declarations) (scoped : IsTypedScope (declared ds)) (q : Sequent) (t : IsTypedSequent (context_of (declared ds)) q) (ls rs : List TypedName) where
  abbrev here : Context
  here = of_sequent (context_of (declared ds)) q t.frames

  form_typed : (G : Goal) (n : Node) (f : Term) → kept_of ds q n G ≡ given (Some f) → IsTypedKept here f ls rs G
  unfolding kept_of
  form_typed (hoare a p g) n f h =
      let x = given_bind (elaborated n (unary ds q []) [] (Some ty.Bool)) (λ (f : Term). given (Some f)) (Some f) h in
      let fit = condition here (ambient ds q) [] (fits ds scoped q t ls rs) refl (Some []) [] (no_locals (Some []) tt) in
      let z = elaborated_typed n (one here []) (unary ds q []) [] fit (Some ty.Bool) tt x.0 x.1 in
      subst (IsForm (one here [])) (same_some x.0 f (given_is (Some x.0) (Some f) x.2)) (record { typed = z.typed; truth = z.wanted })
  form_typed (equiv a b p g) n f h =
      let x = given_bind (elaborated n (relational ds q [] []) [] (Some ty.Bool)) (λ (f : Term). given (Some f)) (Some f) h in
      let fit = conditions here (ambient ds q) [] (fits ds scoped q t ls rs) refl (Some []) (Some []) [] [] (no_locals (Some []) tt) (no_locals (Some []) tt) in
      let z = elaborated_typed n (two here [] []) (relational ds q [] []) [] fit (Some ty.Bool) tt x.0 x.1 in
      subst (IsForm (two here [] [])) (same_some x.0 f (given_is (Some x.0) (Some f) x.2)) (record { typed = z.typed; truth = z.wanted })
  form_typed (phoare a r p g b) n f h = tt
  form_typed (other_form g) n f h = tt

  forms_typed : (G : Goal) (m n : Node) (u : Until) → until_of ds q m n G ≡ given (Some u) → IsTypedUntil here u ls rs G
  unfolding until_of
  forms_typed (equiv a b p g) m n u h =
      let x = given_bind (elaborated m (unary ds q []) [] (Some ty.Bool)) _ (Some u) h in
      let y = given_bind (elaborated n (relational ds q [] []) [] (Some ty.Bool)) (λ (f : Term). given (Some (record { event = x.0; kept = f }))) (Some u) x.2 in
      let one_fit = condition here (ambient ds q) [] (fits ds scoped q t ls rs) refl (Some []) [] (no_locals (Some []) tt) in
      let two_fit = conditions here (ambient ds q) [] (fits ds scoped q t ls rs) refl (Some []) (Some []) [] [] (no_locals (Some []) tt) (no_locals (Some []) tt) in
      let z = elaborated_typed m (one here []) (unary ds q []) [] one_fit (Some ty.Bool) tt x.0 x.1 in
      let k = elaborated_typed n (two here [] []) (relational ds q [] []) [] two_fit (Some ty.Bool) tt y.0 y.1 in
      let made : Until = record { event = x.0; kept = y.0 } in
      subst (λ v. IsTypedUntil here v ls rs (equiv a b p g)) (same_some made u (given_is (Some made) (Some u) y.2)) (
        record { typed = z.typed; truth = z.wanted },
        record { typed = k.typed; truth = k.wanted },
      )
  forms_typed (hoare a p g) m n u h = tt
  forms_typed (phoare a r p g b) m n u h = tt
  forms_typed (other_form g) m n u h = tt

  -- what a rule says that oracles keep is typed
  abbrev AbstractTyped : Rule → Type 0
  AbstractTyped (rule.Abstract r) = IsTypedRule here r ls rs (goal_of q.conclusion)
  AbstractTyped _ = Unit {0}

  others : (k : Rule) → IsOther k → AbstractTyped k
  others (rule.Abstract r) i = absurd i
  others _ i = tt

  kept_typed : (n : Node) (f : Term) → IsKept ds q n f → IsTypedKept here f ls rs (goal_of q.conclusion)
  kept_typed n f e = form_typed (goal_of q.conclusion) n f e

  until_typed : (m n : Node) (u : Until) → IsUntil ds q m n u → IsTypedUntil here u ls rs (goal_of q.conclusion)
  until_typed m n u e = forms_typed (goal_of q.conclusion) m n u e

  step_typed : (n : Node) (s : Step) → step_given ds q n ≡ given s → AbstractTyped s.rule
  step_typed n s h =
      of_step ds q AbstractTyped others (of_call ds q AbstractTyped (λ s. tt) (λ a n f e. tt) kept_typed until_typed tt) (of_entering ds q AbstractTyped (λ a. tt) kept_typed tt)
      (λ m n. of_by ds q m n AbstractTyped (λ b e z g. tt) (λ b e z g. tt) tt) (λ e. of_splitting ds q e AbstractTyped (λ f i u g. tt) tt) n s h

  pub abstract_step_typed : (n : Node) (s : Step) → step_given ds q n ≡ given s → (r : AbstractRule) → s.rule ≡ rule.Abstract r → IsTypedRule here r ls rs (goal_of q.conclusion)
  abstract_step_typed n s h r e = subst AbstractTyped e (step_typed n s h)
