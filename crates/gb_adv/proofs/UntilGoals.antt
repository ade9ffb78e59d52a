-- The goals of oracles, by what they keep until an event has come about, are typed.
use Rattle.std.proofs.Common.{◌≡◌, Bool, true, false, ◌&&◌, not, if◌then◌else◌, List, [], ◌∷◌, ◌++◌, Option, Some, None, is_some, refl, ap, sym, ◌∙◌, subst}
use Rattle.std.specs.List.{AllByRecursion}
use Rattle.std.proofs.lemmas.Bool.{and_parts, false≢true}
use Rattle.std.proofs.lemmas.Option.{same_Some}
use Rattle.gb_core.specs.declared.refusal.Why.TheVariants.{Shape}
use Rattle.gb_core.specs.declared.ty.Ty.{Ty}
use Rattle.gb_terms.specs.declared.decl.TypedName.{TypedName}
use Rattle.gb_terms.specs.declared.module.ProcRef.{ProcRef}
use Rattle.gb_terms.specs.declared.term.Term.{Term}
use Rattle.gb_goal.specs.Answers.{Answer}
use Rattle.gb_goal.specs.Answers.Answer.{given, refused}
use Rattle.gb_goal.specs.Goal.{Goal}
use Rattle.gb_goal.specs.Interfaces.{ProcedureType, procedure_type, same_params as have_same_types}
use Rattle.gb_goal.specs.Rows.{refusing}
use Rattle.gb_goal.specs.Scope.{Declarations}
use Rattle.gb_meaning.specs.Memory.{result_name}
use Rattle.gb_meaning.specs.Written.{local_type}
use Rattle.gb_laws.specs.Finite.{IsFinite, IsVariableType}
use Rattle.gb_typing.specs.Context.{Context, procedure, with_own, with_sides}
use Rattle.gb_typing.specs.Forms.{and_form}
use Rattle.gb_typing.specs.Goals.{IsTypedGoal}
use Rattle.gb_typing.specs.Programs.{HaveVariableTypes}
use Rattle.gb_typing.specs.Scopes.{HaveOwnNames}
use Rattle.gb_typing.specs.Typing.{IsForm, IsThere, after, before}
use Rattle.gb_typing.proofs.Forms.{and_typed}
use Rattle.gb_typing.proofs.Given.{refused_at, refused_given}
use Rattle.gb_typing.proofs.Variables.{variable_finite}
use Rattle.gb_call.specs.Call.{in_front}
use Rattle.gb_prog.specs.BothAnyOf.{EachPair}
use Rattle.gb_adv.specs.Equations.{led_by, same_params, same_result}
use Rattle.gb_adv.specs.Oracles.{behind, each_keep_both, each_keeps, keep_both, keeps, with_both}
use Rattle.gb_adv.specs.OwnNames.{own_names}
use Rattle.gb_adv.proofs.AskedTypes.{AreAlike}
use Rattle.gb_adv.proofs.EquationsTyped.{led_typed, own_types, params_typed, result_typed}
use Rattle.gb_adv.proofs.KeptForms.{over_both_locals, over_locals}
use Rattle.gb_steps.specs.declared.step.Until.{Until}
use Rattle.gb_typing.specs.Forms.{located}
use Rattle.gb_typing.proofs.Forms.{implies_typed, not_typed}
use Rattle.gb_terms.specs.declared.op.Side.TheVariants as side
use Rattle.gb_adv.specs.Equations.{followed_by}
use Rattle.gb_adv.specs.Until.{as_long, each_keep_until, keep_until, not_yet, with_until}
use Rattle.gb_adv.proofs.EquationsTyped.{followed_typed}
use Rattle.gb_adv.proofs.OracleGoals.{HaveOneType, finite_types, given_front, given_list, have_one_type, is_there, keeps_typed, own, result_of}

module _ (ds : Declarations) (c : Context) (knows : (o : ProcRef) (t : ProcedureType) → procedure_type ds None o ≡ Some t → procedure c o ≡ Some t) (u : Until)
    (event_form : IsForm (with_own c (Some [])) u.event) (right_event : IsForm (with_sides c (Some []) (Some [])) (located side.Right u.event)) (kept_form : IsForm (with_sides c (Some []) (Some [])) u.kept) where
  pub not_yet_typed : (F K : List TypedName) → IsForm (with_sides c (Some F) (Some K)) (not_yet u)
  not_yet_typed F K = not_typed (with_sides c (Some F) (Some K)) (located side.Right u.event) (over_both_locals c (located side.Right u.event) right_event F K)

  pub long_typed : (F K : List TypedName) (f : Term) → IsForm (with_sides c (Some F) (Some K)) f → IsForm (with_sides c (Some F) (Some K)) (as_long u f)
  long_typed F K f x = implies_typed (with_sides c (Some F) (Some K)) (not_yet u) f (not_yet_typed F K) x

  module _ (o p : ProcRef) (t z : ProcedureType) (e : procedure_type ds None o ≡ Some t) (f : procedure_type ds None p ≡ Some z) (one : HaveOneType t z)
      (names : HaveOwnNames t.params) (others : HaveOwnNames z.params) where
    abbrev Before : Context
    Before = with_sides c (Some t.params) (Some z.params)

    abbrev left_result : List TypedName
    left_result = record { name = result_name; ty = t.result } ∷ []

    abbrev right_result : List TypedName
    right_result = record { name = result_name; ty = z.result } ∷ []

    abbrev After : Context
    After = with_sides c (Some left_result) (Some right_result)

    starts : IsForm Before (and_form (followed_by (not_yet u) (same_params t.params z.params)) u.kept)
    starts =
        and_typed Before (followed_by (not_yet u) (same_params t.params z.params)) u.kept
        (followed_typed c (Some t.params) (Some z.params) (not_yet u) (not_yet_typed t.params z.params) (same_params t.params z.params)
        (params_typed c (Some t.params) (Some z.params) t.params z.params one.0 (finite_types t.params one.2) (own_types t.params names) (own_types z.params others)))
        (over_both_locals c u.kept kept_form t.params z.params)

    ends : IsForm After (as_long u (and_form (same_result t.result) u.kept))
    ends =
        long_typed left_result right_result (and_form (same_result t.result) u.kept)
        (and_typed After (same_result t.result) u.kept (result_typed c t.result z.result (variable_finite t.result one.3) one.1) (over_both_locals c u.kept kept_form left_result right_result))

    keep_until_typed : IsTypedGoal c (keep_until u o t p z)
    keep_until_typed = (
      [],
      [],
      (
        tt,
        is_there ds c knows u.kept o t e,
        is_there ds c knows u.kept p z f,
        subst (λ x. x) (λ k. IsForm (with_sides c (before (sym (knows o t e) k)) (before (sym (knows p z f) k))) (and_form (followed_by (not_yet u) (same_params t.params z.params)) u.kept)) starts,
        subst (λ x. x) (λ k. IsForm (with_sides c (after (sym (knows o t e) k)) (after (sym (knows p z f) k))) (as_long u (and_form (same_result t.result) u.kept))) ends,
      ),
    )

  abbrev AreTyped : List ProcRef → List ProcRef → Type 0
  AreTyped os ps = (Hs : List Goal) → each_keep_until ds u os ps ≡ given Hs → AllByRecursion (IsTypedGoal c) Hs

  pub each_keep_until_typed : (os ps : List ProcRef) → EachPair (AreAlike ds) os ps → (Gs : List Goal) → each_keep_until ds u os ps ≡ given Gs → AllByRecursion (IsTypedGoal c) Gs
  each_keep_until_typed [] ps x Gs e = subst (AllByRecursion (IsTypedGoal c)) (ap given_list e) tt
  each_keep_until_typed (o ∷ os) [] x Gs e = subst (AllByRecursion (IsTypedGoal c)) (ap given_list e) tt
  each_keep_until_typed (o ∷ os) (p ∷ ps) x Gs e = by_types (procedure_type ds None o) refl (procedure_type ds None p) refl e (each_keep_until_typed os ps x.1)
    where
      by_names : (t z : ProcedureType) → procedure_type ds None o ≡ Some t → procedure_type ds None p ≡ Some z → (b : Bool) → (own_names t.params && own_names z.params) ≡ b →
          (if b then in_front (keep_until u o t p z) (in_front (keeps u.event p) (each_keep_until ds u os ps)) else refusing Shape) ≡ given Gs → AreTyped os ps → AllByRecursion (IsTypedGoal c) Gs
      by_names t z f k true n e go =
          let y = given_front (keep_until u o t p z) (in_front (keeps u.event p) (each_keep_until ds u os ps)) Gs e in
          let a = given_front (keeps u.event p) (each_keep_until ds u os ps) y.0 y.1 in
          let m = and_parts (own_names t.params) (own_names z.params) n in
          subst (AllByRecursion (IsTypedGoal c)) y.2 (
            keep_until_typed o p t z f k (have_one_type ds o p x.0 t z f k) (own t.params m.0) (own z.params m.1),
            subst (AllByRecursion (IsTypedGoal c)) a.2 (keeps_typed ds c knows u.event event_form p z k, go a.0 a.1),
          )
      by_names t z f k false n e go = refused_given Shape Gs e

      by_types : (f : Option ProcedureType) → procedure_type ds None o ≡ f → (k : Option ProcedureType) → procedure_type ds None p ≡ k → with_until u o f p k (each_keep_until ds u os ps) ≡ given Gs → AreTyped os ps →
          AllByRecursion (IsTypedGoal c) Gs
      by_types None f k n e go = refused_given Shape Gs e
      by_types (Some t) f None n e go = refused_given Shape Gs e
      by_types (Some t) f (Some z) n e go = by_names t z f n (own_names t.params && own_names z.params) refl e go
