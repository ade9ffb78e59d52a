-- The goals of oracles are typed.
use Rattle.std.proofs.Common.{◌≡◌, Bool, true, false, ◌&&◌, not, if◌then◌else◌, List, [], ◌∷◌, ◌++◌, Option, Some, None, is_some, refl, ap, sym, ◌∙◌, subst}
use Rattle.std.specs.List.{AllByRecursion}
use Rattle.std.proofs.lemmas.Bool.{and_parts, false≢true}
use Rattle.std.proofs.lemmas.Option.{same_Some}
use Rattle.gb_core.specs.declared.refusal.Why.TheVariants.{Shape}
use Rattle.gb_core.specs.declared.ty.Ty.{Ty}
use Rattle.gb_terms.specs.declared.decl.TypedName.{TypedName}
use Rattle.gb_terms.specs.declared.module.ProcRef.{ProcRef}
use Rattle.gb_terms.specs.declared.term.Term.{Term}
use Rattle.gb_goal.specs.Answers.{Answer}
use Rattle.gb_goal.specs.Answers.Answer.{given, refused}
use Rattle.gb_goal.specs.Goal.{Goal}
use Rattle.gb_goal.specs.Interfaces.{ProcedureType, procedure_type, same_params as have_same_types}
use Rattle.gb_goal.specs.Rows.{refusing}
use Rattle.gb_goal.specs.Scope.{Declarations}
use Rattle.gb_meaning.specs.Memory.{result_name}
use Rattle.gb_meaning.specs.Written.{local_type}
use Rattle.gb_laws.specs.Finite.{IsFinite, IsVariableType}
use Rattle.gb_typing.specs.Context.{Context, procedure, with_own, with_sides}
use Rattle.gb_typing.specs.Forms.{and_form}
use Rattle.gb_typing.specs.Goals.{IsTypedGoal}
use Rattle.gb_typing.specs.Programs.{HaveVariableTypes}
use Rattle.gb_typing.specs.Scopes.{HaveOwnNames}
use Rattle.gb_typing.specs.Typing.{IsForm, IsThere, after, before}
use Rattle.gb_typing.proofs.Forms.{and_typed}
use Rattle.gb_typing.proofs.Given.{refused_at, refused_given}
use Rattle.gb_typing.proofs.Variables.{variable_finite}
use Rattle.gb_call.specs.Call.{in_front}
use Rattle.gb_prog.specs.BothAnyOf.{EachPair}
use Rattle.gb_adv.specs.Equations.{led_by, same_params, same_result}
use Rattle.gb_adv.specs.Oracles.{behind, each_keep_both, each_keeps, keep_both, keeps, with_both}
use Rattle.gb_adv.specs.OwnNames.{own_names}
use Rattle.gb_adv.proofs.AskedTypes.{AreAlike}
use Rattle.gb_adv.proofs.EquationsTyped.{led_typed, own_types, params_typed, result_typed}
use Rattle.gb_adv.proofs.KeptForms.{over_both_locals, over_locals}

abbrev pub given_list : Answer (List Goal) → List Goal
given_list (given Gs) = Gs
given_list (refused why place) = []

-- a goal in front of given ones is given
pub given_front : (G : Goal) (a : Answer (List Goal)) (Gs : List Goal) → in_front G a ≡ given Gs → (Hs : List Goal) × (a ≡ given Hs) × (G ∷ Hs ≡ Gs)
given_front G (given Hs) Gs e = (Hs, refl, ap given_list e)
given_front G (refused why place) Gs e = refused_at why place Gs e

-- what goals are given behind others
pub given_before : (a : Answer (List Goal)) (Hs Gs : List Goal) → behind a Hs ≡ given Gs → (Ks : List Goal) × (a ≡ given Ks) × (Ks ++ Hs ≡ Gs)
given_before (given Ks) Hs Gs e = (Ks, refl, ap given_list e)
given_before (refused why place) Hs Gs e = refused_at why place Gs e

-- parameters that are found to have names of their own have them
pub own : (xs : List TypedName) → own_names xs ≡ true → HaveOwnNames xs
own [] e = tt
own (x ∷ xs) e =
    let k = and_parts (not (is_some (local_type xs x.name))) (own_names xs) e in
    (none_of (local_type xs x.name) k.0, own xs k.1)
  where
    none_of : (o : Option Ty) → not (is_some o) ≡ true → o ≡ None
    none_of None e = refl
    none_of (Some t) e = absurd (false≢true e)

pub finite_types : (ps : List TypedName) → HaveVariableTypes ps → AllByRecursion (λ (x : TypedName). IsFinite x.ty) ps
finite_types [] h = tt
finite_types (p ∷ ps) h = (variable_finite p.ty h.0, finite_types ps h.1)

pub all_parts : {A : Type 0} (P : A → Type 0) (xs ys : List A) → AllByRecursion P (xs ++ ys) → AllByRecursion P xs × AllByRecursion P ys
all_parts P [] ys h = (tt, h)
all_parts P (x ∷ xs) ys h = let k = all_parts P xs ys h.1 in ((h.0, k.0), k.1)

-- the type of a procedure is known
abbrev pub IsKnownType : Declarations → ProcRef → Type 0
IsKnownType ds o = (t : ProcedureType) × (procedure_type ds None o ≡ Some t)

pub first_known : (ds : Declarations) (os : List ProcRef) → EachPair (AreAlike ds) os os → AllByRecursion (IsKnownType ds) os
first_known ds [] h = tt
first_known ds (o ∷ os) h = ((let x = h.0 in (x.left, x.left_known)), first_known ds os h.1)

-- two types of procedures that are the same but for names
abbrev pub HaveOneType : ProcedureType → ProcedureType → Type 0
HaveOneType t u = (have_same_types t.params u.params ≡ true) × (t.result ≡ u.result) × HaveVariableTypes t.params × IsVariableType t.result

pub have_one_type : (ds : Declarations) (o p : ProcRef) → AreAlike ds o p → (t u : ProcedureType) → procedure_type ds None o ≡ Some t → procedure_type ds None p ≡ Some u → HaveOneType t u
have_one_type ds o p x t u e f =
    subst (λ z. z) (λ i. HaveOneType (same_Some x.left t (sym x.left_known ∙ e) i) (same_Some x.right u (sym x.right_known ∙ f) i)) (x.params, x.result, x.variables.0, x.variables.1)

module _ (ds : Declarations) (c : Context) (knows : (o : ProcRef) (t : ProcedureType) → procedure_type ds None o ≡ Some t → procedure c o ≡ Some t) (i : Term) where
  pub is_there : (o : ProcRef) (t : ProcedureType) → procedure_type ds None o ≡ Some t → IsThere (procedure c o)
  is_there o t e = subst IsThere (sym (knows o t e)) tt

  abbrev pub result_of : ProcedureType → List TypedName
  result_of t = record { name = result_name; ty = t.result } ∷ []

  -- on one program
  module _ (w : IsForm (with_own c (Some [])) i) where
    pub keeps_typed : (o : ProcRef) (t : ProcedureType) → procedure_type ds None o ≡ Some t → IsTypedGoal c (keeps i o)
    keeps_typed o t e = (
      [],
      [],
      (
        is_there o t e,
        subst (λ z. IsForm (with_own c (before z)) i) (sym (knows o t e)) (over_locals c i w t.params),
        subst (λ z. IsForm (with_own c (after z)) i) (sym (knows o t e)) (over_locals c i w (result_of t)),
      ),
    )

    pub each_keeps_typed : (os : List ProcRef) → AllByRecursion (IsKnownType ds) os → AllByRecursion (IsTypedGoal c) (each_keeps i os)
    each_keeps_typed [] h = tt
    each_keeps_typed (o ∷ os) h = (keeps_typed o h.0.0 h.0.1, each_keeps_typed os h.1)

  -- on two
  module _ (w : IsForm (with_sides c (Some []) (Some [])) i) where
    module _ (o p : ProcRef) (t u : ProcedureType) (e : procedure_type ds None o ≡ Some t) (f : procedure_type ds None p ≡ Some u) (one : HaveOneType t u)
        (names : HaveOwnNames t.params) (others : HaveOwnNames u.params) where
      abbrev Before : Context
      Before = with_sides c (Some t.params) (Some u.params)

      abbrev After : Context
      After = with_sides c (Some (result_of t)) (Some (result_of u))

      starts : IsForm Before (led_by (same_params t.params u.params) i)
      starts =
          led_typed c (Some t.params) (Some u.params) (same_params t.params u.params)
          (params_typed c (Some t.params) (Some u.params) t.params u.params one.0 (finite_types t.params one.2) (own_types t.params names) (own_types u.params others)) i
          (over_both_locals c i w t.params u.params)

      ends : IsForm After (and_form (same_result t.result) i)
      ends =
          and_typed After (same_result t.result) i
          (result_typed c t.result u.result (variable_finite t.result one.3) one.1)
          (over_both_locals c i w (result_of t) (result_of u))

      pub keep_both_typed : IsTypedGoal c (keep_both i o t p u)
      keep_both_typed = (
        [],
        [],
        (
          tt,
          is_there o t e,
          is_there p u f,
          subst (λ z. z) (λ k. IsForm (with_sides c (before (sym (knows o t e) k)) (before (sym (knows p u f) k))) (led_by (same_params t.params u.params) i)) starts,
          subst (λ z. z) (λ k. IsForm (with_sides c (after (sym (knows o t e) k)) (after (sym (knows p u f) k))) (and_form (same_result t.result) i)) ends,
        ),
      )

    abbrev AreTyped : List ProcRef → List ProcRef → Type 0
    AreTyped os ps = (Hs : List Goal) → each_keep_both ds i os ps ≡ given Hs → AllByRecursion (IsTypedGoal c) Hs

    pub each_keep_both_typed : (os ps : List ProcRef) → EachPair (AreAlike ds) os ps → (Gs : List Goal) → each_keep_both ds i os ps ≡ given Gs → AllByRecursion (IsTypedGoal c) Gs
    each_keep_both_typed [] ps x Gs e = subst (AllByRecursion (IsTypedGoal c)) (ap given_list e) tt
    each_keep_both_typed (o ∷ os) [] x Gs e = subst (AllByRecursion (IsTypedGoal c)) (ap given_list e) tt
    each_keep_both_typed (o ∷ os) (p ∷ ps) x Gs e = by_types (procedure_type ds None o) refl (procedure_type ds None p) refl e (each_keep_both_typed os ps x.1)
      where
        by_names : (t u : ProcedureType) → procedure_type ds None o ≡ Some t → procedure_type ds None p ≡ Some u → (b : Bool) → (own_names t.params && own_names u.params) ≡ b →
            (if b then in_front (keep_both i o t p u) (each_keep_both ds i os ps) else refusing Shape) ≡ given Gs → AreTyped os ps → AllByRecursion (IsTypedGoal c) Gs
        by_names t u f k true n e go =
            let z = given_front (keep_both i o t p u) (each_keep_both ds i os ps) Gs e in
            let m = and_parts (own_names t.params) (own_names u.params) n in
            subst (AllByRecursion (IsTypedGoal c)) z.2 (keep_both_typed o p t u f k (have_one_type ds o p x.0 t u f k) (own t.params m.0) (own u.params m.1), go z.0 z.1)
        by_names t u f k false n e go = refused_given Shape Gs e

        by_types : (f : Option ProcedureType) → procedure_type ds None o ≡ f → (k : Option ProcedureType) → procedure_type ds None p ≡ k → with_both i o f p k (each_keep_both ds i os ps) ≡ given Gs → AreTyped os ps →
            AllByRecursion (IsTypedGoal c) Gs
        by_types None f k n e go = refused_given Shape Gs e
        by_types (Some t) f None n e go = refused_given Shape Gs e
        by_types (Some t) f (Some u) n e go = by_names t u f n (own_names t.params && own_names u.params) refl e go
