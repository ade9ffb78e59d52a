-- `call` by what is known is sound.
use Rattle.std.proofs.Common.{◌≡◌, inl, inr, Bool, true, false, List, [], ◌∷◌, map, Option, Some, None, refl, ap, sym, ◌∙◌, subst}
use Rattle.std.specs.List.{AllByRecursion}
use Rattle.std.specs.Option.{option_map}
use Rattle.std.proofs.lemmas.Option.{same_Some}
use Rattle.gb_core.specs.declared.place.Place.{Place}
use Rattle.gb_core.specs.declared.refusal.Why.TheVariants.{Shape}
use Rattle.gb_core.specs.declared.ty.Ty.TheVariants as ty
use Rattle.gb_terms.specs.declared.decl.TypedName.{TypedName}
use Rattle.gb_terms.specs.declared.module.ProcRef.{ProcRef}
use Rattle.gb_terms.specs.declared.op.Rel.{Rel}
use Rattle.gb_terms.specs.declared.term.Term.{Term}
use Rattle.gb_steps.specs.declared.step.Acts.{Acts}
use Rattle.gb_steps.specs.declared.step.Acts.TheVariants as on
use Rattle.gb_steps.specs.declared.step.Contract.{Contract}
use Rattle.gb_goal.specs.Answers.{Answer, placed_at}
use Rattle.gb_goal.specs.Answers.Answer.{given, refused}
use Rattle.gb_goal.specs.Goal.{Goal, form_of, goal_of}
use Rattle.gb_goal.specs.Goal.Code.{body, procedure as of_procedure}
use Rattle.gb_goal.specs.Goal.Goal.{hoare, phoare, equiv, ambient}
use Rattle.gb_goal.specs.Rows.{concluding, each_concluding}
use Rattle.gb_goal.specs.Scope.{Declarations}
use Rattle.gb_goal.specs.declared.sequent.Sequent.{Sequent}
use Rattle.gb_meaning.specs.Declared.{declared}
use Rattle.gb_meaning.specs.Holds.{Holds}
use Rattle.gb_meaning.specs.Truth.{has_module}
use Rattle.gb_meaning.specs.Written.{type_of}
use Rattle.gb_typing.specs.Context.{Context, procedure, with_own, with_sides}
use Rattle.gb_typing.specs.Goals.{IsGoalOver, IsTypedGoal}
use Rattle.gb_typing.specs.Rules.{IsSoundIn, outermost}
use Rattle.gb_typing.specs.Scopes.{context_of, IsTypedScope}
use Rattle.gb_typing.specs.Sequents.{of_sequent, IsTypedSequent}
use Rattle.gb_typing.specs.Typing.{IsForm, after, before}
use Rattle.gb_typing.proofs.Fronts.{front_ambient}
use Rattle.gb_typing.proofs.Given.{refused_at, same_given}
use Rattle.gb_typing.proofs.Lifted.{by_rule, sequent_outermost}
use Rattle.gb_typing.proofs.Models.{each_chosen, each_setting}
use Rattle.gb_typing.proofs.Shapes.{goal_form}
use Rattle.gb_typing.proofs.TypedGoals.{conclusion_goal, goal_conclusion, no_module}
use Rattle.gb_call.specs.Call.{IsContract}
use Rattle.gb_call.specs.LastCall.{LastCall, last_call}
use Rattle.gb_call_both.specs.Call.{AreContracts}
use Rattle.gb_call_both.proofs.CallIsSound as of_call
use Rattle.gb_call_both.proofs.OneSideIsSound as of_side
use Rattle.gb_call_both.specs.Known.{IsAnswer, IsOfCalls, behind, behind_first, by_conditions, contract}
use Rattle.gb_call_both.proofs.FirstGoals.{known_first}

module _ (ds : Declarations) (scoped : IsTypedScope (declared ds)) (q : Sequent) (t : IsTypedSequent (context_of (declared ds)) q) where
  abbrev c : Context
  c = of_sequent (context_of (declared ds)) q t.frames

  outer : c ≡ outermost c
  outer = sequent_outermost (declared ds) q t.frames

  -- what a typed judgment states of procedures is typed where these are called last
  one_typed : (s : Contract) (f : ProcRef) → IsForm (with_own c (before (procedure c f))) s.pre → IsForm (with_own c (after (procedure c f))) s.post →
      (o : Option LastCall) → option_map (λ (k : LastCall). k.procedure) o ≡ Some f → IsContract c s o
  one_typed s f v w None e = tt
  one_typed s f v w (Some k) e =
      let n = sym (same_Some k.procedure f e) in (subst (λ p. IsForm (with_own c (before (procedure c p))) s.pre) n v, subst (λ p. IsForm (with_own c (after (procedure c p))) s.post) n w)

  two_typed : (s : Contract) (f h : ProcRef) → IsForm (with_sides c (before (procedure c f)) (before (procedure c h))) s.pre →
      IsForm (with_sides c (after (procedure c f)) (after (procedure c h))) s.post → (o u : Option LastCall) →
      option_map (λ (k : LastCall). k.procedure) o ≡ Some f → option_map (λ (k : LastCall). k.procedure) u ≡ Some h → AreContracts c s o u
  two_typed s f h v w None u e i = tt
  two_typed s f h v w (Some k) None e i = tt
  two_typed s f h v w (Some k) (Some l) e i =
      let m = sym (same_Some k.procedure f e) in
      let n = sym (same_Some l.procedure h i) in (
        subst (λ x. x) (λ j. IsForm (with_sides c (before (procedure c (m j))) (before (procedure c (n j)))) s.pre) v,
        subst (λ x. x) (λ j. IsForm (with_sides c (after (procedure c (m j))) (after (procedure c (n j)))) s.post) w,
      )

  module _ (ls rs us vs : List TypedName) where
    by_hoare : (a : Acts) (f : ProcRef) (h k : Term) (G : Goal) → IsGoalOver c us vs (hoare (of_procedure f) h k) → IsOfCalls a (hoare (of_procedure f) h k) G → IsGoalOver c ls rs G →
        IsSoundIn (declared ds) c (by_conditions ds a (hoare (of_procedure f) h k)) G
    by_hoare on.All f h k (hoare (body is) p r) w o v Gs e =
        of_call.sound ds scoped q t (contract on.All h k) outer ls rs (hoare (body is) p r) v (one_typed (contract on.All h k) f w.1 w.2 (last_call is) o) Gs e
    by_hoare on.Left f h k (equiv (body is) (body js) p r) w o v Gs e =
        of_call.sound ds scoped q t (contract on.Left h k) outer ls rs (equiv (body is) (body js) p r) v (one_typed (contract on.Left h k) f w.1 w.2 (last_call is) o) Gs e
    by_hoare on.Right f h k (equiv (body is) (body js) p r) w o v Gs e =
        of_call.sound ds scoped q t (contract on.Right h k) outer ls rs (equiv (body is) (body js) p r) v (one_typed (contract on.Right h k) f w.1 w.2 (last_call js) o) Gs e
    by_hoare on.All f h k (hoare (of_procedure n) p r) w o v Gs e = absurd o
    by_hoare on.All f h k (phoare d m p r z) w o v Gs e = absurd o
    by_hoare on.All f h k (equiv d n p r) w o v Gs e = absurd o
    by_hoare on.All f h k (ambient n) w o v Gs e = absurd o
    by_hoare on.Left f h k (equiv (body is) (of_procedure n) p r) w o v Gs e = absurd o
    by_hoare on.Left f h k (equiv (of_procedure n) d p r) w o v Gs e = absurd o
    by_hoare on.Left f h k (hoare d p r) w o v Gs e = absurd o
    by_hoare on.Left f h k (phoare d m p r z) w o v Gs e = absurd o
    by_hoare on.Left f h k (ambient n) w o v Gs e = absurd o
    by_hoare on.Right f h k (equiv (body is) (of_procedure n) p r) w o v Gs e = absurd o
    by_hoare on.Right f h k (equiv (of_procedure n) d p r) w o v Gs e = absurd o
    by_hoare on.Right f h k (hoare d p r) w o v Gs e = absurd o
    by_hoare on.Right f h k (phoare d m p r z) w o v Gs e = absurd o
    by_hoare on.Right f h k (ambient n) w o v Gs e = absurd o

    by_phoare : (a : Acts) (f : ProcRef) (l : Rel) (h k b : Term) (G : Goal) → IsGoalOver c us vs (phoare (of_procedure f) l h k b) → IsOfCalls a (phoare (of_procedure f) l h k b) G → IsGoalOver c ls rs G →
        IsSoundIn (declared ds) c (by_conditions ds a (phoare (of_procedure f) l h k b)) G
    by_phoare on.All f l h k b (phoare (body is) m p r d) w o v Gs e =
        of_call.sound ds scoped q t (contract on.All h k) outer ls rs (phoare (body is) m p r d) v (one_typed (contract on.All h k) f w.1 w.2 (last_call is) o.0) Gs e
    by_phoare on.Left f l h k b (equiv (body is) (body js) p r) w o v Gs e =
        of_side.left_sound ds scoped q t (contract on.Left h k) outer ls rs is js p r v (Some b) (w.3, w.4, o.1.1) (one_typed (contract on.Left h k) f w.1 w.2 (last_call is) o.0) Gs e
    by_phoare on.Right f l h k b (equiv (body is) (body js) p r) w o v Gs e =
        of_side.right_sound ds scoped q t (contract on.Right h k) outer ls rs is js p r v (Some b) (w.3, w.4, o.1.1) (one_typed (contract on.Right h k) f w.1 w.2 (last_call js) o.0) Gs e
    by_phoare on.All f l h k b (phoare (of_procedure n) m p r d) w o v Gs e = absurd o
    by_phoare on.All f l h k b (hoare d p r) w o v Gs e = absurd o
    by_phoare on.All f l h k b (equiv d n p r) w o v Gs e = absurd o
    by_phoare on.All f l h k b (ambient n) w o v Gs e = absurd o
    by_phoare on.Left f l h k b (equiv (body is) (of_procedure n) p r) w o v Gs e = absurd o
    by_phoare on.Left f l h k b (equiv (of_procedure n) d p r) w o v Gs e = absurd o
    by_phoare on.Left f l h k b (hoare d p r) w o v Gs e = absurd o
    by_phoare on.Left f l h k b (phoare d m p r z) w o v Gs e = absurd o
    by_phoare on.Left f l h k b (ambient n) w o v Gs e = absurd o
    by_phoare on.Right f l h k b (equiv (body is) (of_procedure n) p r) w o v Gs e = absurd o
    by_phoare on.Right f l h k b (equiv (of_procedure n) d p r) w o v Gs e = absurd o
    by_phoare on.Right f l h k b (hoare d p r) w o v Gs e = absurd o
    by_phoare on.Right f l h k b (phoare d m p r z) w o v Gs e = absurd o
    by_phoare on.Right f l h k b (ambient n) w o v Gs e = absurd o

    by_equiv : (a : Acts) (f g : ProcRef) (h k : Term) (G : Goal) → IsGoalOver c us vs (equiv (of_procedure f) (of_procedure g) h k) → IsOfCalls a (equiv (of_procedure f) (of_procedure g) h k) G →
        IsGoalOver c ls rs G → IsSoundIn (declared ds) c (by_conditions ds a (equiv (of_procedure f) (of_procedure g) h k)) G
    by_equiv on.All f g h k (equiv (body is) (body js) p r) w o v Gs e =
        of_call.sound ds scoped q t (contract on.All h k) outer ls rs (equiv (body is) (body js) p r) v (two_typed (contract on.All h k) f g w.3 w.4 (last_call is) (last_call js) o.0 o.1) Gs e
    by_equiv on.All f g h k (equiv (body is) (of_procedure n) p r) w o v Gs e = absurd o
    by_equiv on.All f g h k (equiv (of_procedure n) d p r) w o v Gs e = absurd o
    by_equiv on.All f g h k (hoare d p r) w o v Gs e = absurd o
    by_equiv on.All f g h k (phoare d m p r z) w o v Gs e = absurd o
    by_equiv on.All f g h k (ambient n) w o v Gs e = absurd o
    by_equiv on.Left f g h k G w o v Gs e = absurd o
    by_equiv on.Right f g h k G w o v Gs e = absurd o

    conditions_sound : (a : Acts) (K G : Goal) → IsGoalOver c us vs K → IsOfCalls a K G → IsGoalOver c ls rs G → IsSoundIn (declared ds) c (by_conditions ds a K) G
    conditions_sound a (hoare (of_procedure f) h k) G w o v = by_hoare a f h k G w o v
    conditions_sound a (hoare (body is) h k) G w o v = absurd o
    conditions_sound a (phoare (of_procedure f) l h k b) G w o v = by_phoare a f l h k b G w o v
    conditions_sound a (phoare (body is) l h k b) G w o v = absurd o
    conditions_sound a (equiv (of_procedure f) (of_procedure g) h k) G w o v = by_equiv a f g h k G w o v
    conditions_sound a (equiv (of_procedure f) (body is) h k) G w o v = absurd o
    conditions_sound a (equiv (body is) d h k) G w o v = absurd o
    conditions_sound a (ambient f) G w o v = absurd o

  -- a form that isn't a judgment calls nothing
  none_called : (a : Acts) (K : Goal) (f : Term) → IsOfCalls a K (ambient f) → ⊥
  none_called on.All (hoare (of_procedure f) h k) g o = o
  none_called on.Left (hoare (of_procedure f) h k) g o = o
  none_called on.Right (hoare (of_procedure f) h k) g o = o
  none_called a (hoare (body is) h k) g o = o
  none_called on.All (phoare (of_procedure f) l h k b) g o = o
  none_called on.Left (phoare (of_procedure f) l h k b) g o = o
  none_called on.Right (phoare (of_procedure f) l h k b) g o = o
  none_called a (phoare (body is) l h k b) g o = o
  none_called on.All (equiv (of_procedure f) (of_procedure g) h k) m o = o
  none_called on.Left (equiv (of_procedure f) (of_procedure g) h k) m o = o
  none_called on.Right (equiv (of_procedure f) (of_procedure g) h k) m o = o
  none_called a (equiv (of_procedure f) (body is) h k) g o = o
  none_called a (equiv (body is) d h k) g o = o
  none_called a (ambient f) g o = o

  module _ (a : Acts) (f : Term) (w : IsForm c f) (known : Holds (declared ds) (record q { conclusion = f })) (place : Place) (qs : List Sequent) where
    abbrev Leads : List Sequent → Type 0
    Leads rs = AllByRecursion (IsTypedSequent (context_of (declared ds))) rs × (AllByRecursion (Holds (declared ds)) rs → Holds (declared ds) q)

    abbrev K : Goal
    K = goal_of f

    typed : IsTypedGoal c K × (type_of f ≡ ty.Bool)
    typed = conclusion_goal c f (goal_conclusion c [] [] (ambient f) w) (no_module c f w.typed)

    -- the first goal is what is known
    holds_first : Holds (declared ds) (concluding q K)
    holds_first = subst (λ x. Holds (declared ds) (record q { conclusion = x })) (sym (goal_form f typed.1)) known

    module _ (o : IsOfCalls a K (goal_of q.conclusion)) where
      front : has_module q.conclusion ≡ false
      front = by_test (has_module q.conclusion) refl
        where
          by_test : (b : Bool) → has_module q.conclusion ≡ b → has_module q.conclusion ≡ false
          by_test true e = absurd (none_called a K q.conclusion (subst (IsOfCalls a K) (front_ambient q.conclusion e) o))
          by_test false e = e

      at_goal : IsTypedGoal c (goal_of q.conclusion) × (type_of q.conclusion ≡ ty.Bool)
      at_goal = conclusion_goal c q.conclusion t.conclusion front

      sound : IsSoundIn (declared ds) c (by_conditions ds a K) (goal_of q.conclusion)
      sound = conditions_sound at_goal.0.0 at_goal.0.1 typed.0.0 typed.0.1 a K (goal_of q.conclusion) typed.0.2 o at_goal.0.2

      behind_known : (Hs : List Goal) → by_conditions ds a K (goal_of q.conclusion) ≡ given (K ∷ Hs) → Leads (map (concluding q) Hs)
      behind_known Hs e =
          let k =
          by_rule (declared ds) q t (each_setting (declared ds) scoped q t.modules t.frames) (each_chosen (declared ds) scoped q t.modules []) at_goal.1 at_goal.0.0 at_goal.0.1 at_goal.0.2
          (by_conditions ds a K) sound (map (concluding q) (K ∷ Hs)) (ap (each_concluding q) e) in
          (k.0.1, λ h. k.1 (holds_first, h))

      by_answer : (r : Answer (List Goal)) → by_conditions ds a K (goal_of q.conclusion) ≡ r → given qs ≡ behind_first (placed_at place (each_concluding q r)) → Leads qs
      by_answer (given Gs) e i =
          let x = known_first ds Gs a K (goal_of q.conclusion) o e in
          subst Leads (sym (same_given qs (map (concluding q) x.rest) (i ∙ ap (λ Hs. given (behind (map (concluding q) Hs))) x.shape))) (behind_known x.rest (e ∙ ap given x.shape))
      by_answer (refused why at) e i = refused_at why _ qs (sym i)

    pub leads : IsAnswer ds a f place q (given qs) → Leads qs
    leads (inl x) = by_answer x.0 (by_conditions ds a K (goal_of q.conclusion)) refl x.1
    leads (inr x) = refused_at Shape place qs (sym x.1)

    -- the goals that are given are typed ones of `call` by the conditions of what is known, but for the first
    pub record AreBehind : Type 0 where
      pub goals : List Goal
      pub given_so : by_conditions ds a K (goal_of q.conclusion) ≡ given goals
      pub typed_so : AllByRecursion (IsTypedGoal c) goals
      pub rest : qs ≡ behind (map (concluding q) goals)
      pub seen : IsTypedGoal c (goal_of q.conclusion)

    pub behind_goals : IsAnswer ds a f place q (given qs) → AreBehind
    behind_goals (inl x) = step (by_conditions ds a K (goal_of q.conclusion)) refl x.1
      where
        step : (r : Answer (List Goal)) → by_conditions ds a K (goal_of q.conclusion) ≡ r → given qs ≡ behind_first (placed_at place (each_concluding q r)) → AreBehind
        step (given Gs) e i = record { goals = Gs; given_so = e; typed_so = (sound x.0 Gs e).0; rest = same_given qs (behind (map (concluding q) Gs)) i; seen = (at_goal x.0).0 }
        step (refused why at) e i = refused_at why _ qs (sym i)
    behind_goals (inr x) = refused_at Shape place qs (sym x.1)
