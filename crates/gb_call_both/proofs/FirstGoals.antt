-- The first goal of `call` says what its procedures do.
use Rattle.std.proofs.Common.{◌≡◌, Bool, true, false, if◌then◌else◌, List, [], ◌∷◌, length, Option, Some, None, ap, sym, ◌∙◌, subst, nat_lt}
use Rattle.std.specs.Option.{option_map}
use Rattle.std.proofs.lemmas.Option.{same_Some}
use Rattle.gb_core.specs.declared.refusal.Why.TheVariants.{Shape, SideCondition}
use Rattle.gb_core.specs.declared.var.Var.{Var}
use Rattle.gb_terms.specs.declared.decl.Proc.{Proc}
use Rattle.gb_terms.specs.declared.module.ProcRef.{ProcRef}
use Rattle.gb_terms.specs.declared.op.Rel.{Rel}
use Rattle.gb_terms.specs.declared.op.Rel.TheVariants.{AtLeast}
use Rattle.gb_terms.specs.declared.op.Side.TheVariants as side
use Rattle.gb_terms.specs.declared.term.Instr.{Instr}
use Rattle.gb_terms.specs.declared.term.Term.{Term}
use Rattle.gb_steps.specs.declared.step.Acts.{Acts}
use Rattle.gb_steps.specs.declared.step.Acts.TheVariants as on
use Rattle.gb_steps.specs.declared.step.Contract.{Contract}
use Rattle.gb_goal.specs.Answers.{Answer}
use Rattle.gb_goal.specs.Answers.Answer.{given, refused}
use Rattle.gb_goal.specs.Goal.{Goal}
use Rattle.gb_goal.specs.Goal.Code.{body, procedure}
use Rattle.gb_goal.specs.Goal.Goal.{hoare, phoare, equiv, ambient}
use Rattle.gb_goal.specs.Rows.{refusing}
use Rattle.gb_goal.specs.Scope.{Declarations, procedure_of}
use Rattle.gb_mods.specs.Exclusions.{exclusions}
use Rattle.gb_mods.specs.Written.{written}
use Rattle.gb_prog.specs.Writes.{TypedVariable}
use Rattle.gb_typing.proofs.Given.{refused_given, refused_at, same_given}
use Rattle.gb_prog.specs.OneBody.{OneBody}
use Rattle.gb_full.specs.Loss.{first_loss}
use Rattle.gb_full.specs.Lossless.{of_rest}
use Rattle.gb_call.specs.Call.{Callee, before_call, by_callee, by_globals, callee, callee_of, chances_by_callee, chances_by_globals, chances_of_callee, if_few, in_front, left_of, of_callee, unless_clash}
use Rattle.gb_call.specs.LastCall.{LastCall, last_call}
use Rattle.gb_call.specs.Outcomes.{clash_after}
use Rattle.gb_call.specs.Written.{with_types}
use Rattle.gb_call_both.specs.Call.{before_both, by_both_globals, by_callees, clash_after_both, of_callees}
use Rattle.gb_call_both.specs.OneSide.{judged, of_body, on_one_side, on_side}
use Rattle.gb_call_both.proofs.SideGoals.{callee_given, callee_is}
use Rattle.gb_call_both.specs.Known.{IsOfCalls, by_conditions, contract}

-- the goals are this one and others behind it
pub record IsFirst (K : Goal) (Gs : List Goal) : Type 0 where
  pub rest : List Goal
  pub shape : Gs ≡ K ∷ rest

first_given : (K : Goal) (Hs Gs : List Goal) → given (K ∷ Hs) ≡ given Gs → IsFirst K Gs
first_given K Hs Gs e = record { rest = Hs; shape = sym (same_given (K ∷ Hs) Gs e) }

front_given : (K : Goal) (a : Answer (List Goal)) (Gs : List Goal) → in_front K a ≡ given Gs → IsFirst K Gs
front_given K (given Hs) Gs e = first_given K Hs Gs e
front_given K (refused why at) Gs e = refused_at why at Gs e

few_given : (xs : List Var) (a : Answer (List Goal)) (Gs : List Goal) → if_few xs a ≡ given Gs → a ≡ given Gs
few_given xs a Gs e = by_test (nat_lt (length xs) 9) e
  where
    by_test : (b : Bool) → (if b then a else refusing Shape) ≡ given Gs → a ≡ given Gs
    by_test true e = e
    by_test false e = refused_given Shape Gs e

clear_given : (o : Option Var) (a : Answer (List Goal)) (Gs : List Goal) → unless_clash o a ≡ given Gs → a ≡ given Gs
clear_given (Some x) a Gs e = refused_given (SideCondition x) Gs e
clear_given None a Gs e = e

module _ (ds : Declarations) (s : Contract) (p q : Term) (Gs : List Goal) where
  -- on one body
  abbrev said : ProcRef → Goal
  said f = hoare (procedure f) s.pre s.post

  globals_first : (k : Callee) (o : Option (List TypedVariable)) → by_globals k s p q o ≡ given Gs → IsFirst (said k.call.procedure) Gs
  globals_first k None e = refused_given Shape Gs e
  globals_first k (Some W) e = first_given (said k.call.procedure) (hoare (body k.call.before) p (before_call AtLeast side.Own k W s q) ∷ []) Gs e

  callee_first : (k : Callee) → by_callee ds s p q k ≡ given Gs → IsFirst (said k.call.procedure) Gs
  callee_first k e =
      let a = by_globals k s p q (with_types ds (left_of side.Own k s q)) in
      let o = clash_after (exclusions ds) side.Own k.call.targets k.written s.post q in
      globals_first k (with_types ds (left_of side.Own k s q)) (clear_given o a Gs (few_given k.call.targets (unless_clash o a) Gs e))

  declared_first : (k : LastCall) (m : Option Proc) (n : Option (List Var)) → of_callee ds s p q (callee k m n) ≡ given Gs → IsFirst (said k.procedure) Gs
  declared_first k None n e = refused_given Shape Gs e
  declared_first k (Some a) None e = refused_given Shape Gs e
  declared_first k (Some a) (Some xs) e = callee_first (record { call = k; declared = a; written = xs }) e

  one_first : (f : ProcRef) (o : Option LastCall) → option_map (λ (k : LastCall). k.procedure) o ≡ Some f → of_callee ds s p q (callee_of ds o) ≡ given Gs → IsFirst (said f) Gs
  one_first f None i e = refused_given Shape Gs e
  one_first f (Some k) i e = subst (λ x. IsFirst (said x) Gs) (same_Some k.procedure f i) (declared_first k (procedure_of ds k.procedure) (written ds k.procedure) e)

  -- under a bound
  module _ (r : Rel) (b : Term) where
    abbrev likely : ProcRef → Goal
    likely f = phoare (procedure f) r s.pre s.post b

    chances_first : (k : Callee) (o : Option (List TypedVariable)) → chances_by_globals ds k s r p q b o ≡ given Gs → IsFirst (likely k.call.procedure) Gs
    chances_first k None e = refused_given Shape Gs e
    chances_first k (Some W) e =
        front_given (likely k.call.procedure) (of_rest (first_loss ds k.call.before) r b (hoare (body k.call.before) p (before_call r side.Own k W s q))) Gs e

    likely_callee : (k : Callee) → chances_by_callee ds s r p q b k ≡ given Gs → IsFirst (likely k.call.procedure) Gs
    likely_callee k e =
        let a = chances_by_globals ds k s r p q b (with_types ds (left_of side.Own k s q)) in
        let o = clash_after (exclusions ds) side.Own k.call.targets k.written s.post q in
        chances_first k (with_types ds (left_of side.Own k s q)) (clear_given o a Gs (few_given k.call.targets (unless_clash o a) Gs e))

    likely_declared : (k : LastCall) (m : Option Proc) (n : Option (List Var)) → chances_of_callee ds s r p q b (callee k m n) ≡ given Gs → IsFirst (likely k.procedure) Gs
    likely_declared k None n e = refused_given Shape Gs e
    likely_declared k (Some a) None e = refused_given Shape Gs e
    likely_declared k (Some a) (Some xs) e = likely_callee (record { call = k; declared = a; written = xs }) e

    likely_first : (f : ProcRef) (o : Option LastCall) → option_map (λ (k : LastCall). k.procedure) o ≡ Some f → chances_of_callee ds s r p q b (callee_of ds o) ≡ given Gs → IsFirst (likely f) Gs
    likely_first f None i e = refused_given Shape Gs e
    likely_first f (Some k) i e = subst (λ x. IsFirst (likely x) Gs) (same_Some k.procedure f i) (likely_declared k (procedure_of ds k.procedure) (written ds k.procedure) e)

  -- on two bodies
  abbrev alike : ProcRef → ProcRef → Goal
  alike f h = equiv (procedure f) (procedure h) s.pre s.post

  both_first : (k l : Callee) (o u : Option (List TypedVariable)) → by_both_globals k l s p q o u ≡ given Gs → IsFirst (alike k.call.procedure l.call.procedure) Gs
  both_first k l None u e = refused_given Shape Gs e
  both_first k l (Some W) None e = refused_given Shape Gs e
  both_first k l (Some W) (Some V) e =
      first_given (alike k.call.procedure l.call.procedure) (equiv (body k.call.before) (body l.call.before) p (before_both k W l V s q) ∷ []) Gs e

  callees_first : (k l : Callee) → by_callees ds s p q k l ≡ given Gs → IsFirst (alike k.call.procedure l.call.procedure) Gs
  callees_first k l e =
      let a = by_both_globals k l s p q (with_types ds (left_of side.Left k s q)) (with_types ds (left_of side.Right l s q)) in
      let o = clash_after_both (exclusions ds) k l s q in
      both_first k l (with_types ds (left_of side.Left k s q)) (with_types ds (left_of side.Right l s q))
      (clear_given o a Gs (few_given l.call.targets (unless_clash o a) Gs (few_given k.call.targets (if_few l.call.targets (unless_clash o a)) Gs e)))

  both_declared : (k l : LastCall) (m o : Option Proc) (n u : Option (List Var)) → of_callees ds s p q (callee k m n) (callee l o u) ≡ given Gs → IsFirst (alike k.procedure l.procedure) Gs
  both_declared k l None o n u e = refused_given Shape Gs e
  both_declared k l (Some a) o None u e = refused_given Shape Gs e
  both_declared k l (Some a) None (Some xs) u e = refused_given Shape Gs e
  both_declared k l (Some a) (Some d) (Some xs) None e = refused_given Shape Gs e
  both_declared k l (Some a) (Some d) (Some xs) (Some ys) e =
      callees_first (record { call = k; declared = a; written = xs }) (record { call = l; declared = d; written = ys }) e

  two_first : (f h : ProcRef) (o u : Option LastCall) → option_map (λ (k : LastCall). k.procedure) o ≡ Some f → option_map (λ (k : LastCall). k.procedure) u ≡ Some h →
      of_callees ds s p q (callee_of ds o) (callee_of ds u) ≡ given Gs → IsFirst (alike f h) Gs
  two_first f h None u i j e = refused_given Shape Gs e
  two_first f h (Some k) None i j e = none_behind (callee_of ds (Some k)) e
    where
      none_behind : (m : Option Callee) → of_callees ds s p q m None ≡ given Gs → IsFirst (alike f h) Gs
      none_behind None e = refused_given Shape Gs e
      none_behind (Some m) e = refused_given Shape Gs e
  two_first f h (Some k) (Some l) i j e =
      subst (λ x. IsFirst (alike x h) Gs) (same_Some k.procedure f i)
      (subst (λ x. IsFirst (alike k.procedure x) Gs) (same_Some l.procedure h j)
      (both_declared k l (procedure_of ds k.procedure) (procedure_of ds l.procedure) (written ds k.procedure) (written ds l.procedure) e))

-- `call` by the conditions of a judgment of the called procedures gives that judgment first
module _ (ds : Declarations) (Gs : List Goal) where
  -- on one of two bodies
  side_first : (b : Option Term) (s : Contract) (o : OneBody) (f : ProcRef) → option_map (λ (k : LastCall). k.procedure) (last_call o.list) ≡ Some f → of_body ds b s o ≡ given Gs → IsFirst (judged b f s) Gs
  side_first b s o f i e =
      let x = callee_given ds b s o Gs (callee_of ds (last_call o.list)) e in
      let k = x.0 in
      let c = callee_is ds (last_call o.list) k x.1 in
      let z = x.2 in
      let same : k.call.procedure ≡ f = same_Some k.call.procedure f (sym (ap (option_map (λ (k : LastCall). k.procedure)) c.last) ∙ i) in
      subst (λ f. IsFirst (judged b f s) Gs) same
      (record { rest = o.goal k.call.before o.pre (before_call AtLeast o.side k z.globals (on_side o.side s) o.post) ∷ []; shape = sym z.goals })

  left_first : (b : Option Term) (s : Contract) (f : ProcRef) (is js : List Instr) (p q : Term) → option_map (λ (k : LastCall). k.procedure) (last_call is) ≡ Some f →
      on_one_side ds b s on.Left (equiv (body is) (body js) p q) ≡ given Gs → IsFirst (judged b f s) Gs
  left_first b s f is js p q = side_first b s (record { side = side.Left; list = is; pre = p; post = q; goal = λ is p q. equiv (body is) (body js) p q }) f

  right_first : (b : Option Term) (s : Contract) (f : ProcRef) (is js : List Instr) (p q : Term) → option_map (λ (k : LastCall). k.procedure) (last_call js) ≡ Some f →
      on_one_side ds b s on.Right (equiv (body is) (body js) p q) ≡ given Gs → IsFirst (judged b f s) Gs
  right_first b s f is js p q = side_first b s (record { side = side.Right; list = js; pre = p; post = q; goal = λ js p q. equiv (body is) (body js) p q }) f

  of_hoare : (a : Acts) (f : ProcRef) (h k : Term) (G : Goal) → IsOfCalls a (hoare (procedure f) h k) G → by_conditions ds a (hoare (procedure f) h k) G ≡ given Gs → IsFirst (hoare (procedure f) h k) Gs
  of_hoare on.All f h k (hoare (body is) p q) o e = one_first ds (contract on.All h k) p q Gs f (last_call is) o e
  of_hoare on.Left f h k (equiv (body is) (body js) p q) o e = left_first None (contract on.Left h k) f is js p q o e
  of_hoare on.Right f h k (equiv (body is) (body js) p q) o e = right_first None (contract on.Right h k) f is js p q o e
  of_hoare on.All f h k (hoare (procedure g) p q) o e = absurd o
  of_hoare on.All f h k (phoare c r p q b) o e = absurd o
  of_hoare on.All f h k (equiv c d p q) o e = absurd o
  of_hoare on.All f h k (ambient t) o e = absurd o
  of_hoare on.Left f h k (equiv (body is) (procedure g) p q) o e = absurd o
  of_hoare on.Left f h k (equiv (procedure g) d p q) o e = absurd o
  of_hoare on.Left f h k (hoare c p q) o e = absurd o
  of_hoare on.Left f h k (phoare c r p q b) o e = absurd o
  of_hoare on.Left f h k (ambient t) o e = absurd o
  of_hoare on.Right f h k (equiv (body is) (procedure g) p q) o e = absurd o
  of_hoare on.Right f h k (equiv (procedure g) d p q) o e = absurd o
  of_hoare on.Right f h k (hoare c p q) o e = absurd o
  of_hoare on.Right f h k (phoare c r p q b) o e = absurd o
  of_hoare on.Right f h k (ambient t) o e = absurd o

  of_phoare : (a : Acts) (f : ProcRef) (l : Rel) (h k d : Term) (G : Goal) → IsOfCalls a (phoare (procedure f) l h k d) G → by_conditions ds a (phoare (procedure f) l h k d) G ≡ given Gs →
      IsFirst (phoare (procedure f) l h k d) Gs
  of_phoare on.All f l h k d (phoare (body is) r p q b) o e =
      subst (λ x. IsFirst (phoare (procedure f) x h k d) Gs) (sym o.1)
      (subst (λ x. IsFirst (phoare (procedure f) r h k x) Gs) (sym o.2) (likely_first ds (contract on.All h k) p q Gs r b f (last_call is) o.0 e))
  of_phoare on.Left f l h k d (equiv (body is) (body js) p q) o e =
      subst (λ x. IsFirst (phoare (procedure f) x h k d) Gs) (sym o.1.0) (left_first (Some d) (contract on.Left h k) f is js p q o.0 e)
  of_phoare on.Right f l h k d (equiv (body is) (body js) p q) o e =
      subst (λ x. IsFirst (phoare (procedure f) x h k d) Gs) (sym o.1.0) (right_first (Some d) (contract on.Right h k) f is js p q o.0 e)
  of_phoare on.All f l h k d (phoare (procedure g) r p q b) o e = absurd o
  of_phoare on.All f l h k d (hoare c p q) o e = absurd o
  of_phoare on.All f l h k d (equiv c g p q) o e = absurd o
  of_phoare on.All f l h k d (ambient t) o e = absurd o
  of_phoare on.Left f l h k d (equiv (body is) (procedure g) p q) o e = absurd o
  of_phoare on.Left f l h k d (equiv (procedure g) c p q) o e = absurd o
  of_phoare on.Left f l h k d (hoare c p q) o e = absurd o
  of_phoare on.Left f l h k d (phoare c r p q b) o e = absurd o
  of_phoare on.Left f l h k d (ambient t) o e = absurd o
  of_phoare on.Right f l h k d (equiv (body is) (procedure g) p q) o e = absurd o
  of_phoare on.Right f l h k d (equiv (procedure g) c p q) o e = absurd o
  of_phoare on.Right f l h k d (hoare c p q) o e = absurd o
  of_phoare on.Right f l h k d (phoare c r p q b) o e = absurd o
  of_phoare on.Right f l h k d (ambient t) o e = absurd o

  of_equiv : (a : Acts) (f g : ProcRef) (h k : Term) (G : Goal) → IsOfCalls a (equiv (procedure f) (procedure g) h k) G → by_conditions ds a (equiv (procedure f) (procedure g) h k) G ≡ given Gs →
      IsFirst (equiv (procedure f) (procedure g) h k) Gs
  of_equiv on.All f g h k (equiv (body is) (body js) p q) o e = two_first ds (contract on.All h k) p q Gs f g (last_call is) (last_call js) o.0 o.1 e
  of_equiv on.All f g h k (equiv (body is) (procedure d) p q) o e = absurd o
  of_equiv on.All f g h k (equiv (procedure d) c p q) o e = absurd o
  of_equiv on.All f g h k (hoare c p q) o e = absurd o
  of_equiv on.All f g h k (phoare c r p q b) o e = absurd o
  of_equiv on.All f g h k (ambient t) o e = absurd o
  of_equiv on.Left f g h k G o e = absurd o
  of_equiv on.Right f g h k G o e = absurd o

  pub known_first : (a : Acts) (K G : Goal) → IsOfCalls a K G → by_conditions ds a K G ≡ given Gs → IsFirst K Gs
  known_first a (hoare (procedure f) h k) G o e = of_hoare a f h k G o e
  known_first a (hoare (body is) h k) G o e = absurd o
  known_first a (phoare (procedure f) l h k d) G o e = of_phoare a f l h k d G o e
  known_first a (phoare (body is) l h k d) G o e = absurd o
  known_first a (equiv (procedure f) (procedure g) h k) G o e = of_equiv a f g h k G o e
  known_first a (equiv (procedure f) (body is) h k) G o e = absurd o
  known_first a (equiv (body is) d h k) G o e = absurd o
  known_first a (ambient t) G o e = absurd o
