-- What is said before and after procedures whose probabilities a goal compares is typed over their parameters and results.
use Rattle.std.proofs.Common.{◌≡◌, ℕ, List, [], ◌∷◌, Some, None, refl, sym, subst}
use Rattle.gb_core.specs.declared.place.Place.{Place}
use Rattle.gb_core.specs.declared.ty.Ty.TheVariants as ty
use Rattle.gb_terms.specs.declared.decl.TypedName.{TypedName}
use Rattle.gb_terms.specs.declared.module.ProcRef.{ProcRef}
use Rattle.gb_terms.specs.declared.term.Head.{Head}
use Rattle.gb_terms.specs.declared.term.Head.TheVariants as head
use Rattle.gb_terms.specs.declared.term.Term.{Term, out-Term}
use Rattle.gb_goal.specs.Scope as scope
use Rattle.gb_goal.specs.Interfaces.{procedure_type}
use Rattle.gb_goal.specs.Goal.{Goal, IsJudgment, code_of, goal_at, goal_of}
use Rattle.gb_goal.specs.Goal.Goal.{hoare, phoare, equiv, ambient as other_form}
use Rattle.gb_goal.specs.declared.sequent.Sequent.{Sequent}
use Rattle.gb_goal.specs.Answers.Answer.{given}
use Rattle.gb_steps.specs.declared.step.ProbabilityRule.TheVariants.{ByEquiv, ByPhoare}
use Rattle.gb_steps.specs.declared.step.Rule.{Rule}
use Rattle.gb_steps.specs.declared.step.Rule.TheVariants as rule
use Rattle.gb_steps.specs.declared.step.Step.{Step}
use Rattle.gb_script.specs.declared.tree.Node.{Node}
use Rattle.gb_meaning.specs.Declared.{declared}
use Rattle.gb_typing.specs.Context.{Context, procedure, with_own}
use Rattle.gb_typing.specs.Goals.{IsGoalOver}
use Rattle.gb_typing.specs.Scopes.{context_of, IsTypedScope}
use Rattle.gb_typing.specs.Sequents.{of_sequent, IsTypedSequent}
use Rattle.gb_typing.specs.Typing.{IsForm, IsThere, before, after}
use Rattle.gb_names.specs.Environment.{ambient, unary}
use Rattle.gb_elab.specs.Forms.{elaborated}
use Rattle.gb_elab_mod.specs.OnPrograms.{by_rule, conditions, params_if, result_if, said_around}
use Rattle.gb_elab_mod.specs.Steps.{step_given}
use Rattle.gb_pr.specs.ByEquiv as by_equiv
use Rattle.gb_pr.specs.ByPhoare as by_phoare
use Rattle.gb_pr.specs.Rows.{IsTypedRule}
use Rattle.gb_elab_laws.proofs.Anew.{fits, params_stand}
use Rattle.gb_elab_laws.proofs.Betweens.{related_typed}
use Rattle.gb_elab_laws.proofs.Compared.{BoundedThere, BothThere, bounded_there, both_there}
use Rattle.gb_elab_laws.proofs.Conditions.{of_by}
use Rattle.gb_elab_laws.proofs.Contracts.{of_call}
use Rattle.gb_elab_laws.proofs.Keeping.{of_entering}
use Rattle.gb_elab_laws.proofs.EventLaws.{of_splitting}
use Rattle.gb_elab_laws.proofs.Events.{after_typed}
use Rattle.gb_elab_laws.proofs.Forms.{elaborated_typed}
use Rattle.gb_elab_laws.proofs.Given.{given_bind, given_is}
use Rattle.gb_elab_laws.proofs.OneProcedure.{condition}
use Rattle.gb_elab_laws.proofs.Steps.{IsOther, of_step}

-- the goal that a form is, by whether it is a judgment
of_goal : (P : Goal → Type 0) (f : Term) → ((G : Goal) → IsJudgment G → P G) → P (other_form f) → (h : Head) (ts : List Term) → P (goal_at f h ts)
of_goal P f j o (head.Hoare s) (p ∷ g ∷ []) = j (hoare (code_of s) p g) tt
of_goal P f j o (head.Hoare s) [] = o
of_goal P f j o (head.Hoare s) (p ∷ []) = o
of_goal P f j o (head.Hoare s) (p ∷ g ∷ b ∷ ts) = o
of_goal P f j o (head.Phoare s r) (p ∷ g ∷ b ∷ []) = j (phoare (code_of s) r p g b) tt
of_goal P f j o (head.Phoare s r) [] = o
of_goal P f j o (head.Phoare s r) (p ∷ []) = o
of_goal P f j o (head.Phoare s r) (p ∷ g ∷ []) = o
of_goal P f j o (head.Phoare s r) (p ∷ g ∷ b ∷ x ∷ ts) = o
of_goal P f j o (head.Equiv s u) (p ∷ g ∷ []) = j (equiv (code_of s) (code_of u) p g) tt
of_goal P f j o (head.Equiv s u) [] = o
of_goal P f j o (head.Equiv s u) (p ∷ []) = o
of_goal P f j o (head.Equiv s u) (p ∷ g ∷ b ∷ ts) = o
of_goal P f j o _ ts = o

-- nothing is asked of a step at a judgment
at_judgment : (c : Context) (ls rs : List TypedName) (k : Rule) (G : Goal) → IsJudgment G → IsTypedRule c k ls rs G
at_judgment c ls rs (rule.Probability (ByEquiv s)) (hoare a p g) j = tt
at_judgment c ls rs (rule.Probability (ByEquiv s)) (phoare a r p g b) j = tt
at_judgment c ls rs (rule.Probability (ByEquiv s)) (equiv a b p g) j = tt
at_judgment c ls rs (rule.Probability (ByEquiv s)) (other_form f) j = absurd j
at_judgment c ls rs (rule.Probability (ByPhoare s)) (hoare a p g) j = tt
at_judgment c ls rs (rule.Probability (ByPhoare s)) (phoare a r p g b) j = tt
at_judgment c ls rs (rule.Probability (ByPhoare s)) (equiv a b p g) j = tt
at_judgment c ls rs (rule.Probability (ByPhoare s)) (other_form f) j = absurd j
at_judgment c ls rs _ G j = tt

module _ (ds : scope.Declarations) (scoped : IsTypedScope (declared ds)) (q : Sequent) (t : IsTypedSequent (context_of (declared ds)) q) (ls rs : List TypedName) where
  abbrev here : Context
  here = of_sequent (context_of (declared ds)) q t.frames

  -- what is said around a procedure that is there
  abbrev IsAround : ProcRef → Term × Term → Type 0
  IsAround r u = IsForm (with_own here (before (procedure here r))) u.0 × IsForm (with_own here (after (procedure here r))) u.1

  around_typed : (a b : Node) (r : ProcRef) → IsThere (procedure here r) → (u : Term × Term) → said_around ds q a b r ≡ given u → IsAround r u
  unfolding said_around
  around_typed a b r j u h =
      let x = given_bind (elaborated a (unary ds q (params_if (procedure_type ds None r))) [] (Some ty.Bool)) _ u h in
      let y = given_bind (elaborated b (unary ds q (result_if (procedure_type ds None r))) [] (Some ty.Bool)) (λ (f : Term). given (x.0, f)) u x.2 in
      let pre = condition here (ambient ds q) [] (fits ds scoped q t ls rs) refl (before (procedure here r)) (params_if (procedure_type ds None r)) (params_stand ds scoped q t ls rs r j (procedure_type ds None r) refl) in
      let z = elaborated_typed a (with_own here (before (procedure here r))) (unary ds q (params_if (procedure_type ds None r))) [] pre (Some ty.Bool) tt x.0 x.1 in
      subst (IsAround r) (given_is (x.0, y.0) u y.2) (record { typed = z.typed; truth = z.wanted }, after_typed ds scoped q t b r j y.0 y.1)

  abbrev Typed : Rule → Type 0
  Typed k = IsTypedRule here k ls rs (goal_of q.conclusion)

  others : (k : Rule) → IsOther k → Typed k
  others (rule.Probability (ByEquiv s)) i = absurd i
  others (rule.Probability (ByPhoare s)) i = absurd i
  others _ i = tt

  -- `byphoare` and `byequiv` at a form
  at_form : (m n : Node) → IsForm here q.conclusion → (x : List ℕ) (p : Place) (k : Rule) → by_rule ds q x m n p ≡ given k → IsTypedRule here k ls rs (other_form q.conclusion)
  at_form m n w =
      of_by ds q m n (λ k. IsTypedRule here k ls rs (other_form q.conclusion))
      (λ b e z h. subst (by_phoare.AreConditions here (conditions z)) (sym e) (around_typed m n b.chance.procedure (subst (BoundedThere here) e (bounded_there here q.conclusion w.typed)) z h))
      (λ k e z h. (let j = subst (BothThere here) e (both_there here q.conclusion w.typed) in
      subst (by_equiv.AreConditions here (conditions z)) (sym e) (related_typed ds scoped q t ls rs m n k.left.procedure k.right.procedure j.0 j.1 z h))) tt

  by_typed : IsGoalOver here ls rs (goal_of q.conclusion) → (m n : Node) (x : List ℕ) (p : Place) (k : Rule) → by_rule ds q x m n p ≡ given k → Typed k
  by_typed w m n x p k h =
      of_goal (λ G. IsGoalOver here ls rs G → IsTypedRule here k ls rs G) q.conclusion (λ G j v. at_judgment here ls rs k G j) (λ v. at_form m n v x p k h) (out-Term q.conclusion).head (out-Term q.conclusion).args w

-- The conditions of a typed step of a rule on probabilities are typed.
pub conditions_typed : (ds : scope.Declarations) → IsTypedScope (declared ds) → (q : Sequent) (t : IsTypedSequent (context_of (declared ds)) q) → (n : Node) (s : Step) → step_given ds q n ≡ given s →
    (ls rs : List TypedName) → IsGoalOver (of_sequent (context_of (declared ds)) q t.frames) ls rs (goal_of q.conclusion) →
    IsTypedRule (of_sequent (context_of (declared ds)) q t.frames) s.rule ls rs (goal_of q.conclusion)
conditions_typed ds scoped q t n s h ls rs w =
    of_step ds q (λ k. IsTypedRule (of_sequent (context_of (declared ds)) q t.frames) k ls rs (goal_of q.conclusion)) (others ds scoped q t ls rs)
    (of_call ds q (λ k. IsTypedRule (of_sequent (context_of (declared ds)) q t.frames) k ls rs (goal_of q.conclusion)) (λ s. tt) (λ a n f e. tt) (λ n f e. tt) (λ m n u e. tt) tt)
    (of_entering ds q (λ k. IsTypedRule (of_sequent (context_of (declared ds)) q t.frames) k ls rs (goal_of q.conclusion)) (λ a. tt) (λ n f e. tt) tt) (by_typed ds scoped q t ls rs w)
    (λ e. of_splitting ds q e (λ k. IsTypedRule (of_sequent (context_of (declared ds)) q t.frames) k ls rs (goal_of q.conclusion)) (λ f i u g. tt) tt) n s h
