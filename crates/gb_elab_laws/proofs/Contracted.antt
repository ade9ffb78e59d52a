-- What is said of a called procedure is typed over its parameters and its result.
use Rattle.std.proofs.Common.{◌≡◌, List, [], ◌∷◌, Option, Some, None, refl, sym, ◌∙◌, subst}
use Rattle.std.specs.Option.{option_map}
use Rattle.std.proofs.lemmas.Option.{same_Some}
use Rattle.gb_core.specs.declared.place.Place.{Place}
use Rattle.gb_core.specs.declared.ty.Ty.TheVariants as ty
use Rattle.gb_core.specs.declared.var.Var.{Var}
use Rattle.gb_terms.specs.declared.decl.TypedName.{TypedName}
use Rattle.gb_terms.specs.declared.module.ProcRef.{ProcRef}
use Rattle.gb_terms.specs.declared.term.Term.{Term}
use Rattle.gb_terms.specs.declared.term.Head.TheVariants.{Assign, Sample, Call', If', While'}
use Rattle.gb_terms.specs.declared.term.Instr.{Instr}
use Rattle.gb_goal.specs.Scope as scope
use Rattle.gb_goal.specs.Interfaces.{procedure_type}
use Rattle.gb_goal.specs.Goal.{Goal, goal_of}
use Rattle.gb_goal.specs.Goal.Code.{body, procedure as of_procedure}
use Rattle.gb_goal.specs.Goal.Goal.{hoare, phoare, equiv, ambient as other_form}
use Rattle.gb_goal.specs.declared.sequent.Sequent.{Sequent}
use Rattle.gb_goal.specs.Answers.Answer.{given}
use Rattle.gb_steps.specs.declared.step.Acts.{Acts}
use Rattle.gb_steps.specs.declared.step.Acts.TheVariants as on
use Rattle.gb_steps.specs.declared.step.BodyRule.TheVariants as on_bodies
use Rattle.gb_steps.specs.declared.step.Contract.{Contract}
use Rattle.gb_steps.specs.declared.step.Rule.{Rule}
use Rattle.gb_steps.specs.declared.step.Rule.TheVariants as rule
use Rattle.gb_steps.specs.declared.step.Step.{Step}
use Rattle.gb_script.specs.declared.head.Head.{Head as Kind}
use Rattle.gb_script.specs.declared.head.Head.TheVariants as text
use Rattle.gb_script.specs.declared.tree.Node.{Node}
use Rattle.gb_meaning.specs.Declared.{declared}
use Rattle.gb_typing.specs.Context.{Context, procedure, with_own, with_sides}
use Rattle.gb_typing.specs.Modules.{ProcedureType}
use Rattle.gb_typing.specs.Programs.{IsBody, IsCall}
use Rattle.gb_typing.specs.Scopes.{context_of, IsTypedScope}
use Rattle.gb_typing.specs.Sequents.{of_sequent, IsTypedSequent}
use Rattle.gb_typing.specs.Typing.{IsForm, IsThere, before, after}
use Rattle.gb_typing.specs.Goals.{IsGoalOver}
use Rattle.gb_names.specs.Environment.{ambient, relational, unary}
use Rattle.gb_elab.specs.Forms.{elaborated}
use Rattle.gb_elab_mod.specs.OnPrograms.{call_rule, calls_by, contract_at, contract_of, contract_of_both, last_procedure, params_if, procedure_called, result_if, contract_on}
use Rattle.gb_elab_mod.specs.Steps.{step_given}
use Rattle.gb_elab_mod.specs.Uses.{used}
use Rattle.gb_call.specs.Call.{IsContract}
use Rattle.gb_call.specs.LastCall.{LastCall, behind, last_call, of_statement}
use Rattle.gb_call_both.specs.Call.{AreContracts}
use Rattle.gb_call_both.specs.Rows.{IsTypedRule}
use Rattle.gb_call.proofs.LastCalls.{called_typed}
use Rattle.gb_elab_laws.proofs.Conditions.{of_by}
use Rattle.gb_elab_laws.proofs.Anew.{fits, params_stand, result_stands}
use Rattle.gb_elab_laws.proofs.EventLaws.{of_splitting}
use Rattle.gb_elab_laws.proofs.Forms.{elaborated_typed}
use Rattle.gb_elab_laws.proofs.Given.{given_bind, given_is, not_given}
use Rattle.gb_elab_laws.proofs.Judged.{condition as conditions}
use Rattle.gb_elab_laws.proofs.Keeping.{of_entering, of_kept, of_until}
use Rattle.gb_elab_laws.proofs.OneProcedure.{condition}
use Rattle.gb_elab_laws.proofs.Steps.{IsOther, of_step}

-- the procedure of the call that ends a body is that of its last statement

called_same : (is : List Instr) (i : Instr) → option_map (λ (k : LastCall). k.procedure) (of_statement is i) ≡ procedure_called i
called_same is (Call' xs p n es) = refl
called_same is (Assign xs e) = refl
called_same is (Sample x d) = refl
called_same is (If' e m a n b) = refl
called_same is (While' e v n a) = refl

behind_same : (i : Instr) (o : Option LastCall) → option_map (λ (k : LastCall). k.procedure) (option_map (behind i) o) ≡ option_map (λ (k : LastCall). k.procedure) o
behind_same i None = refl
behind_same i (Some k) = refl

procedure_same : (is : List Instr) → option_map (λ (k : LastCall). k.procedure) (last_call is) ≡ last_procedure is
procedure_same [] = refl
procedure_same (i ∷ []) = called_same [] i
procedure_same (i ∷ j ∷ is) = behind_same i (last_call (j ∷ is)) ∙ procedure_same (j ∷ is)

called_there : (c : Context) (ls : List TypedName) (xs : List Var) (o : Option ProcedureType) (es : List Term) → IsCall c ls xs o es → IsThere o
called_there c ls xs None es h = absurd h
called_there c ls xs (Some t) es h = tt

module _ (ds : scope.Declarations) (scoped : IsTypedScope (declared ds)) (q : Sequent) (t : IsTypedSequent (context_of (declared ds)) q) (ls rs : List TypedName) where
  abbrev here : Context
  here = of_sequent (context_of (declared ds)) q t.frames

  abbrev CallTyped : Rule → Type 0
  CallTyped k = IsTypedRule here k ls rs (goal_of q.conclusion)

  others : (k : Rule) → IsOther k → CallTyped k
  others (rule.Call s) i = absurd i
  others _ i = tt

  unfit_typed : (k : Rule) → given (rule.OnBodies on_bodies.Unfit) ≡ given k → CallTyped k
  unfit_typed k h = subst CallTyped (given_is (rule.OnBodies on_bodies.Unfit) k h) tt

  -- `call` at a typed goal
  module _ (w : IsGoalOver here ls rs (goal_of q.conclusion)) where
    -- at a call of this procedure
    module _ (us : List TypedName) (is : List Instr) (b : IsBody here us is) (r : ProcRef) (f h : Term)
        (pre : IsThere (procedure here r) → IsForm (with_own here (before (procedure here r))) f) (post : IsThere (procedure here r) → IsForm (with_own here (after (procedure here r))) h) (a : Acts) where
      contract_typed : (o : Option LastCall) → last_call is ≡ o → option_map (λ (k : LastCall). k.procedure) o ≡ Some r → IsContract here (record { acts = a; pre = f; post = h }) o
      contract_typed None e i = tt
      contract_typed (Some k) e i =
          let l = called_typed here us is k b e in
          let m : IsThere (procedure here k.procedure) = called_there here us k.targets (procedure here k.procedure) k.arguments l.call in
          let n : k.procedure ≡ r = same_Some k.procedure r i in (
            subst (λ p. IsForm (with_own here (before (procedure here p))) f) (sym n) (pre (subst (λ p. IsThere (procedure here p)) n m)),
            subst (λ p. IsForm (with_own here (after (procedure here p))) h) (sym n) (post (subst (λ p. IsThere (procedure here p)) n m)),
          )

    -- at calls of these procedures
    module _ (is js : List Instr) (b : IsBody here ls is) (d : IsBody here rs js) (r o : ProcRef) (f h : Term)
        (pre : IsThere (procedure here r) → IsThere (procedure here o) → IsForm (with_sides here (before (procedure here r)) (before (procedure here o))) f)
        (post : IsThere (procedure here r) → IsThere (procedure here o) → IsForm (with_sides here (after (procedure here r)) (after (procedure here o))) h) (a : Acts) where
      contracts_typed : (k l : Option LastCall) → last_call is ≡ k → last_call js ≡ l → option_map (λ (k : LastCall). k.procedure) k ≡ Some r → option_map (λ (k : LastCall). k.procedure) l ≡ Some o →
          AreContracts here (record { acts = a; pre = f; post = h }) k l
      contracts_typed None l e u i v = tt
      contracts_typed (Some k) None e u i v = tt
      contracts_typed (Some k) (Some l) e u i v =
          let x = called_typed here ls is k b e in
          let y = called_typed here rs js l d u in
          let m : k.procedure ≡ r = same_Some k.procedure r i in
          let n : l.procedure ≡ o = same_Some l.procedure o v in
          let w : IsThere (procedure here r) = subst (λ p. IsThere (procedure here p)) m (called_there here ls k.targets (procedure here k.procedure) k.arguments x.call) in
          let z : IsThere (procedure here o) = subst (λ p. IsThere (procedure here p)) n (called_there here rs l.targets (procedure here l.procedure) l.arguments y.call) in (
            subst (λ c. c) (λ t. IsForm (with_sides here (before (procedure here (sym m t))) (before (procedure here (sym n t)))) f) (pre w z),
            subst (λ c. c) (λ t. IsForm (with_sides here (after (procedure here (sym m t))) (after (procedure here (sym n t)))) h) (post w z),
          )

    of_contracts : (is js : List Instr) (p g : Term) → goal_of q.conclusion ≡ equiv (body is) (body js) p g → IsBody here ls is → IsBody here rs js → (m n : Node) →
        (o : Option ProcRef) → last_procedure is ≡ o → (u : Option ProcRef) → last_procedure js ≡ u → (k : Rule) → contract_of_both ds q on.All m n o u ≡ given k → CallTyped k
    unfolding contract_of_both
    of_contracts is js p g f b d m n None e u i k h = unfit_typed k h
    of_contracts is js p g f b d m n (Some r) e None i k h = unfit_typed k h
    of_contracts is js p g f b d m n (Some r) e (Some o) i k h =
        let x = given_bind (elaborated m (relational ds q (params_if (procedure_type ds None r)) (params_if (procedure_type ds None o))) [] (Some ty.Bool)) _ k h in
        let y = given_bind (elaborated n (relational ds q (result_if (procedure_type ds None r)) (result_if (procedure_type ds None o))) [] (Some ty.Bool)) (λ (f : Term). given (rule.Call (record { acts = on.All; pre = x.0; post = f }))) k x.2 in
        let s : Contract = record { acts = on.All; pre = x.0; post = y.0 } in
        let pre : IsThere (procedure here r) → IsThere (procedure here o) → IsForm (with_sides here (before (procedure here r)) (before (procedure here o))) x.0 = (λ j l.
        let fit =
        conditions here (ambient ds q) [] (fits ds scoped q t ls rs) refl (before (procedure here r)) (before (procedure here o)) (params_if (procedure_type ds None r)) (params_if (procedure_type ds None o))
        (params_stand ds scoped q t ls rs r j (procedure_type ds None r) refl) (params_stand ds scoped q t ls rs o l (procedure_type ds None o) refl) in
        let z =
        elaborated_typed m (with_sides here (before (procedure here r)) (before (procedure here o))) (relational ds q (params_if (procedure_type ds None r)) (params_if (procedure_type ds None o))) [] fit (Some ty.Bool) tt x.0 x.1 in
        record { typed = z.typed; truth = z.wanted }) in
        let post : IsThere (procedure here r) → IsThere (procedure here o) → IsForm (with_sides here (after (procedure here r)) (after (procedure here o))) y.0 = (λ j l.
        let fit =
        conditions here (ambient ds q) [] (fits ds scoped q t ls rs) refl (after (procedure here r)) (after (procedure here o)) (result_if (procedure_type ds None r)) (result_if (procedure_type ds None o))
        (result_stands ds scoped q t ls rs r j (procedure_type ds None r) refl) (result_stands ds scoped q t ls rs o l (procedure_type ds None o) refl) in
        let z =
        elaborated_typed n (with_sides here (after (procedure here r)) (after (procedure here o))) (relational ds q (result_if (procedure_type ds None r)) (result_if (procedure_type ds None o))) [] fit (Some ty.Bool) tt y.0 y.1 in
        record { typed = z.typed; truth = z.wanted }) in
        subst CallTyped (given_is (rule.Call s) k y.2)
        (subst (IsTypedRule here (rule.Call s) ls rs) (sym f)
        (contracts_typed is js b d r o x.0 y.0 pre post on.All (last_call is) (last_call js) refl refl (procedure_same is ∙ e) (procedure_same js ∙ i)))

    of_contract : (us : List TypedName) (is : List Instr) (G : Goal) → goal_of q.conclusion ≡ G → IsBody here us is → (a : Acts) →
        ((f h : Term) → IsContract here (record { acts = a; pre = f; post = h }) (last_call is) → IsTypedRule here (rule.Call (record { acts = a; pre = f; post = h })) ls rs G) → (m n : Node) (o : Option ProcRef) → last_procedure is ≡ o → (k : Rule) → contract_of ds q a m n o ≡ given k → CallTyped k
    unfolding contract_of
    of_contract us is G f b a put m n None e k h = unfit_typed k h
    of_contract us is G f b a put m n (Some r) e k h =
        let x = given_bind (elaborated m (unary ds q (params_if (procedure_type ds None r))) [] (Some ty.Bool)) _ k h in
        let y = given_bind (elaborated n (unary ds q (result_if (procedure_type ds None r))) [] (Some ty.Bool)) (λ (f : Term). given (rule.Call (record { acts = a; pre = x.0; post = f }))) k x.2 in
        let s : Contract = record { acts = a; pre = x.0; post = y.0 } in
        let pre : IsThere (procedure here r) → IsForm (with_own here (before (procedure here r))) x.0 = (λ j.
        let fit = condition here (ambient ds q) [] (fits ds scoped q t ls rs) refl (before (procedure here r)) (params_if (procedure_type ds None r)) (params_stand ds scoped q t ls rs r j (procedure_type ds None r) refl) in
        let z = elaborated_typed m (with_own here (before (procedure here r))) (unary ds q (params_if (procedure_type ds None r))) [] fit (Some ty.Bool) tt x.0 x.1 in
        record { typed = z.typed; truth = z.wanted }) in
        let post : IsThere (procedure here r) → IsForm (with_own here (after (procedure here r))) y.0 = (λ j.
        let fit = condition here (ambient ds q) [] (fits ds scoped q t ls rs) refl (after (procedure here r)) (result_if (procedure_type ds None r)) (result_stands ds scoped q t ls rs r j (procedure_type ds None r) refl) in
        let z = elaborated_typed n (with_own here (after (procedure here r))) (unary ds q (result_if (procedure_type ds None r))) [] fit (Some ty.Bool) tt y.0 y.1 in
        record { typed = z.typed; truth = z.wanted }) in
        subst CallTyped (given_is (rule.Call s) k y.2)
        (subst (IsTypedRule here (rule.Call s) ls rs) (sym f) (put x.0 y.0 (contract_typed us is b r x.0 y.0 pre post a (last_call is) refl (procedure_same is ∙ e))))

    of_bodies : (is js : List Instr) (p g : Term) → goal_of q.conclusion ≡ equiv (body is) (body js) p g → IsBody here ls is → IsBody here rs js → (a : Acts) (m n : Node) (k : Rule) →
        contract_on ds q a m n is js ≡ given k → CallTyped k
    of_bodies is js p g e b d on.All m n k h = of_contracts is js p g e b d m n (last_procedure is) refl (last_procedure js) refl k h
    of_bodies is js p g e b d on.Left m n k h = of_contract ls is (equiv (body is) (body js) p g) e b on.Left (λ f u z. z) m n (last_procedure is) refl k h
    of_bodies is js p g e b d on.Right m n k h = of_contract rs js (equiv (body is) (body js) p g) e d on.Right (λ f u z. z) m n (last_procedure js) refl k h

    at_goal : (G : Goal) → goal_of q.conclusion ≡ G → IsGoalOver here ls rs G → (a : Acts) (m n : Node) (k : Rule) → contract_at ds q a m n G ≡ given k → CallTyped k
    at_goal (hoare (body is) p g) e v a m n k h = of_contract ls is (hoare (body is) p g) e v.0 a (λ f u z. z) m n (last_procedure is) refl k h
    at_goal (hoare (of_procedure r) p g) e v a m n k h = unfit_typed k h
    at_goal (phoare (body is) r p g u) e v a m n k h = of_contract ls is (phoare (body is) r p g u) e v.0 a (λ f u z. z) m n (last_procedure is) refl k h
    at_goal (phoare (of_procedure d) r p g u) e v a m n k h = unfit_typed k h
    at_goal (equiv (body is) (body js) p g) e v a m n k h = of_bodies is js p g e v.1 v.2 a m n k h
    at_goal (equiv (body is) (of_procedure r) p g) e v a m n k h = unfit_typed k h
    at_goal (equiv (of_procedure r) u p g) e v a m n k h = unfit_typed k h
    at_goal (other_form f) e v a m n k h = unfit_typed k h

    call_typed : (a : Acts) (n : Kind) (ns : List Node) (p : Place) (k : Rule) → call_rule ds q a n ns p ≡ given k → CallTyped k
    call_typed a text.CallContract (m ∷ n ∷ []) p k h = at_goal (goal_of q.conclusion) refl w a m n k h
    call_typed a text.CallInvariant (n ∷ []) p k h = of_kept ds q CallTyped calls_by tt (λ n f e. tt) a n k h
    call_typed a text.CallUpto (m ∷ n ∷ []) p k h = of_until ds q CallTyped tt (λ m n u e. tt) a m n k h
    call_typed a text.CallLemma (n ∷ []) p k h =
        let x = given_bind (used ds q n) (λ (f : Term). given (rule.CallKnown a f)) k h in subst CallTyped (given_is (rule.CallKnown a x.0) k x.2) tt
    call_typed a _ _ p k h = absurd (not_given _ _ k h)

-- The arguments of a typed step of a rule on calls are typed.
pub call_step_typed : (ds : scope.Declarations) → IsTypedScope (declared ds) → (q : Sequent) (t : IsTypedSequent (context_of (declared ds)) q) → (n : Node) (s : Step) → step_given ds q n ≡ given s →
    (ls rs : List TypedName) → IsGoalOver (of_sequent (context_of (declared ds)) q t.frames) ls rs (goal_of q.conclusion) →
    IsTypedRule (of_sequent (context_of (declared ds)) q t.frames) s.rule ls rs (goal_of q.conclusion)
call_step_typed ds scoped q t n s h ls rs w =
    of_step ds q (λ k. IsTypedRule (of_sequent (context_of (declared ds)) q t.frames) k ls rs (goal_of q.conclusion)) (others ds scoped q t ls rs) (call_typed ds scoped q t ls rs w)
    (of_entering ds q (λ k. IsTypedRule (of_sequent (context_of (declared ds)) q t.frames) k ls rs (goal_of q.conclusion)) (λ a. tt) (λ n f e. tt) tt)
    (λ m n. of_by ds q m n (λ k. IsTypedRule (of_sequent (context_of (declared ds)) q t.frames) k ls rs (goal_of q.conclusion)) (λ b e z g. tt) (λ b e z g. tt) tt)
    (λ e. of_splitting ds q e (λ k. IsTypedRule (of_sequent (context_of (declared ds)) q t.frames) k ls rs (goal_of q.conclusion)) (λ f i u g. tt) tt) n s h
