-- What typing makes of `call`, by what a procedure is said to do.
use Rattle.std.proofs.Common.{◌≡◌, List, [], ◌∷◌, Option, Some, None, subst}
use Rattle.gb_core.specs.declared.place.Place.{Place}
use Rattle.gb_core.specs.declared.ty.Ty.TheVariants as ty
use Rattle.gb_terms.specs.declared.module.ProcRef.{ProcRef}
use Rattle.gb_terms.specs.declared.term.Instr.{Instr}
use Rattle.gb_terms.specs.declared.term.Term.{Term}
use Rattle.gb_goal.specs.Interfaces.{procedure_type}
use Rattle.gb_goal.specs.Scope.{Declarations}
use Rattle.gb_goal.specs.Goal.{Goal, goal_of}
use Rattle.gb_goal.specs.Goal.Code.{body, procedure}
use Rattle.gb_goal.specs.Goal.Goal.{hoare, phoare, equiv, ambient}
use Rattle.gb_goal.specs.declared.sequent.Sequent.{Sequent}
use Rattle.gb_goal.specs.Answers.Answer.{given}
use Rattle.gb_steps.specs.declared.step.Acts.{Acts}
use Rattle.gb_steps.specs.declared.step.Acts.TheVariants as on
use Rattle.gb_steps.specs.declared.step.BodyRule.TheVariants as on_bodies
use Rattle.gb_steps.specs.declared.step.Contract.{Contract}
use Rattle.gb_steps.specs.declared.step.Rule.{Rule}
use Rattle.gb_steps.specs.declared.step.AbstractRule.TheVariants as abstract_rule
use Rattle.gb_steps.specs.declared.step.Rule.TheVariants as rule
use Rattle.gb_steps.specs.declared.step.Until.{Until}
use Rattle.gb_script.specs.declared.head.Head.{Head as Kind}
use Rattle.gb_script.specs.declared.head.Head.TheVariants as text
use Rattle.gb_script.specs.declared.tree.Node.{Node}
use Rattle.gb_names.specs.Environment.{relational, unary}
use Rattle.gb_elab.specs.Forms.{elaborated}
use Rattle.gb_elab_mod.specs.OnPrograms.{call_rule, calls_by, contract_at, contract_of, contract_of_both, contract_on, last_procedure, params_if, result_if}
use Rattle.gb_elab_mod.specs.Uses.{used}
use Rattle.gb_elab_laws.proofs.Given.{given_bind, given_is, not_given}
use Rattle.gb_elab_laws.proofs.Keeping.{IsKept, IsUntil, of_kept, of_until}

-- It is a step of `call`, by what is said, by what is known or by what oracles keep, or one that fits no goal.
module _ (ds : Declarations) (q : Sequent) (P : Rule → Type 0) (called : (s : Contract) → P (rule.Call s)) (known : (a : Acts) (n : Node) (f : Term) → used ds q n ≡ given f → P (rule.CallKnown a f))
    (kept : (n : Node) (f : Term) → IsKept ds q n f → P (rule.Abstract (abstract_rule.Call f))) (until : (m n : Node) (u : Until) → IsUntil ds q m n u → P (rule.Abstract (abstract_rule.CallUntil u))) (unfit : P (rule.OnBodies on_bodies.Unfit)) where
  of_contract : (a : Acts) (m n : Node) (o : Option ProcRef) (k : Rule) → contract_of ds q a m n o ≡ given k → P k
  unfolding contract_of
  of_contract a m n None k h = subst P (given_is (rule.OnBodies on_bodies.Unfit) k h) unfit
  of_contract a m n (Some r) k h =
      let x = given_bind (elaborated m (unary ds q (params_if (procedure_type ds None r))) [] (Some ty.Bool)) _ k h in
      let y = given_bind (elaborated n (unary ds q (result_if (procedure_type ds None r))) [] (Some ty.Bool)) (λ (f : Term). given (rule.Call (record { acts = a; pre = x.0; post = f }))) k x.2 in
      subst P (given_is (rule.Call (record { acts = a; pre = x.0; post = y.0 })) k y.2) (called (record { acts = a; pre = x.0; post = y.0 }))

  of_both : (a : Acts) (m n : Node) (o u : Option ProcRef) (k : Rule) → contract_of_both ds q a m n o u ≡ given k → P k
  unfolding contract_of_both
  of_both a m n None u k h = subst P (given_is (rule.OnBodies on_bodies.Unfit) k h) unfit
  of_both a m n (Some r) None k h = subst P (given_is (rule.OnBodies on_bodies.Unfit) k h) unfit
  of_both a m n (Some r) (Some u) k h =
      let x = given_bind (elaborated m (relational ds q (params_if (procedure_type ds None r)) (params_if (procedure_type ds None u))) [] (Some ty.Bool)) _ k h in
      let y = given_bind (elaborated n (relational ds q (result_if (procedure_type ds None r)) (result_if (procedure_type ds None u))) [] (Some ty.Bool)) (λ (f : Term). given (rule.Call (record { acts = a; pre = x.0; post = f }))) k x.2 in
      subst P (given_is (rule.Call (record { acts = a; pre = x.0; post = y.0 })) k y.2) (called (record { acts = a; pre = x.0; post = y.0 }))

  of_bodies : (a : Acts) (m n : Node) (is js : List Instr) (k : Rule) → contract_on ds q a m n is js ≡ given k → P k
  of_bodies on.All m n is js k h = of_both on.All m n (last_procedure is) (last_procedure js) k h
  of_bodies on.Left m n is js k h = of_contract on.Left m n (last_procedure is) k h
  of_bodies on.Right m n is js k h = of_contract on.Right m n (last_procedure js) k h

  at_goal : (a : Acts) (m n : Node) (G : Goal) (k : Rule) → contract_at ds q a m n G ≡ given k → P k
  at_goal a m n (hoare (body is) p f) k h = of_contract a m n (last_procedure is) k h
  at_goal a m n (hoare (procedure r) p f) k h = subst P (given_is (rule.OnBodies on_bodies.Unfit) k h) unfit
  at_goal a m n (phoare (body is) r p f b) k h = of_contract a m n (last_procedure is) k h
  at_goal a m n (phoare (procedure c) r p f b) k h = subst P (given_is (rule.OnBodies on_bodies.Unfit) k h) unfit
  at_goal a m n (equiv (body is) (body js) p f) k h = of_bodies a m n is js k h
  at_goal a m n (equiv (body is) (procedure r) p f) k h = subst P (given_is (rule.OnBodies on_bodies.Unfit) k h) unfit
  at_goal a m n (equiv (procedure r) d p f) k h = subst P (given_is (rule.OnBodies on_bodies.Unfit) k h) unfit
  at_goal a m n (ambient f) k h = subst P (given_is (rule.OnBodies on_bodies.Unfit) k h) unfit

  pub of_call : (a : Acts) (n : Kind) (ns : List Node) (p : Place) (k : Rule) → call_rule ds q a n ns p ≡ given k → P k
  of_call a text.CallContract (m ∷ n ∷ []) p k h = at_goal a m n (goal_of q.conclusion) k h
  of_call a text.CallInvariant (n ∷ []) p k h = of_kept ds q P calls_by unfit kept a n k h
  of_call a text.CallUpto (m ∷ n ∷ []) p k h = of_until ds q P unfit until a m n k h
  of_call a text.CallLemma (n ∷ []) p k h =
      let x = given_bind (used ds q n) (λ (f : Term). given (rule.CallKnown a f)) k h in subst P (given_is (rule.CallKnown a x.0) k x.2) (known a n x.0 x.1)
  of_call a _ _ p k h = absurd (not_given _ _ k h)
