-- Judgments of pairs of oracles, until an event has come about: each pair keeps the relation of globals that a form says, and the right one
-- keeps the event.
use Rattle.std.proofs.Common.{◌≡◌, inl, inr, Bool, true, false, not, ◌&&◌, ◌||◌, if◌then◌else◌, List, [], ◌∷◌, Option, Some, None, refl, ap, sym, ◌∙◌, subst}
use Rattle.std.proofs.lemmas.Bool.{and_parts, false≢true}
use Rattle.std.specs.List.{AllByRecursion}
use Rattle.gb_core.specs.declared.refusal.Why.TheVariants.{Shape}
use Rattle.gb_core.specs.declared.var.Var.TheVariants as var
use Rattle.gb_dist.specs.Coupling.{Coupling}
use Rattle.gb_dist.specs.WeightedList.{Every}
use Rattle.gb_dist.proofs.Basic.{coupling_weakening}
use Rattle.gb_dist.proofs.Entries.{Every-weaken}
use Rattle.gb_terms.specs.declared.module.ProcRef.{ProcRef}
use Rattle.gb_terms.specs.declared.op.Side.TheVariants as side
use Rattle.gb_terms.specs.declared.term.Term.{Term}
use Rattle.gb_steps.specs.declared.step.Until.{Until}
use Rattle.gb_goal.specs.Answers.Answer.{given}
use Rattle.gb_goal.specs.Goal.{Goal}
use Rattle.gb_goal.specs.Interfaces.{ProcedureType, procedure_type}
use Rattle.gb_goal.specs.Rows.{refusing}
use Rattle.gb_goal.specs.Scope.{Declarations}
use Rattle.gb_meaning.specs.Judgments.{Judge, IsFair, IsTrueUnder, den, from_frame, outcome_denominator}
use Rattle.gb_meaning.specs.Memory.{Memory, read_local, result_name}
use Rattle.gb_meaning.specs.Names.{Map}
use Rattle.gb_meaning.specs.Program.{Routine}
use Rattle.gb_meaning.specs.Setting.{Setting}
use Rattle.gb_meaning.specs.State.{State, at, between}
use Rattle.gb_meaning.specs.Values.{Global}
use Rattle.gb_meaning.specs.Written.{params_of}
use Rattle.gb_meaning.proofs.Truths.{true_implies, true_not}
use Rattle.gb_laws.specs.Plain.{IsPlain}
use Rattle.gb_mods.proofs.Closed.{IsIn}
use Rattle.gb_typing.specs.Context.{Context, procedure, reframed}
use Rattle.gb_typing.specs.Fits.{IsSettingOf}
use Rattle.gb_typing.specs.Forms.{and_form, located}
use Rattle.gb_typing.specs.Meaning.{Stands}
use Rattle.gb_typing.specs.Rules.{outermost}
use Rattle.gb_typing.specs.Scopes.{HaveOwnNames}
use Rattle.gb_typing.specs.Typing.{IsForm}
use Rattle.gb_typing.proofs.Forms.{and_make, and_use, implies_use, not_make}
use Rattle.gb_typing.proofs.Given.{refused_given}
use Rattle.gb_prog.specs.BothAnyOf.{EachPair}
use Rattle.gb_call.specs.Call.{in_front}
use Rattle.gb_call_both.proofs.OnSide.{means_on}
use Rattle.gb_prog.specs.Coupled.{Leaves}
use Rattle.gb_prog.specs.OracleJudged.{AreJudgedUntil, IsJudgedToKeep}
use Rattle.gb_prog.specs.Until as open_until
use Rattle.gb_prog.specs.Kept.{AreKeepingUntil, IsThere}
use Rattle.gb_adv.specs.Equations.{followed_by, same_params, same_result}
use Rattle.gb_adv.specs.Oracles.{keeps}
use Rattle.gb_adv.specs.OwnNames.{own_names}
use Rattle.gb_adv.specs.Until.{as_long, each_keep_until, keep_until, not_yet, with_until}
use Rattle.gb_adv.proofs.Agreed.{followed_make, held_in, params_make, same_is}
use Rattle.gb_adv.proofs.EachKept.{AreLeaving}
use Rattle.gb_adv.proofs.KeptPairs.{held_params, oracle_there}
use Rattle.gb_adv.proofs.OracleGoals.{given_front, own}
use Rattle.gb_adv.proofs.Property.{property, property_is}
use Rattle.gb_adv.proofs.Related.{related, related_is}

not_true : (b : Bool) → not b ≡ true → b ≡ false
not_true true e = absurd (false≢true e)
not_true false e = refl

module _ (b : Context) (g : Setting) (outer : IsSettingOf (outermost b) g) (j : Judge) (fair : IsFair g j) (v : State) (u : Until) (plain : IsPlain u.event)
    (we : IsForm (reframed (outermost b) (Some []) None None) u.event) (w : IsForm (reframed (outermost b) None (Some []) (Some [])) u.kept) where
  -- the event, of the globals of the right memory
  abbrev pub event : Map → Bool
  event = property b g outer j fair v u.event we

  -- what is kept, of the globals of both
  abbrev pub kept : Map → Map → Bool
  kept = related b g outer j fair v u.kept w

  pub event_is : (m n : Memory) → den g j (located side.Right u.event) (between v m n) ≡ event n.globals
  event_is m n = means_on b (Some []) side.Right g j v m n u.event plain we ∙ property_is b g outer j fair v u.event we n

  pub not_yet_make : (m n : Memory) → event n.globals ≡ false → IsTrueUnder g j (not_yet u) (between v m n)
  not_yet_make m n e = not_make g j (located side.Right u.event) (between v m n) (event_is m n ∙ e)

  pub not_yet_use : (m n : Memory) → IsTrueUnder g j (not_yet u) (between v m n) → event n.globals ≡ false
  not_yet_use m n h =
      sym (event_is m n) ∙ not_true (den g j (located side.Right u.event) (between v m n)) (sym (true_not g j (located side.Right u.event) (between v m n)) ∙ h)

  -- a form, as long as the event hasn't come about
  pub long_use : (f : Term) (m n : Memory) → IsTrueUnder g j (as_long u f) (between v m n) → event n.globals ≡ false → IsTrueUnder g j f (between v m n)
  long_use f m n h e = implies_use g j (not_yet u) f (between v m n) h (not_yet_make m n e)

  pub long_make : (f : Term) (m n : Memory) → (event n.globals ≡ false → IsTrueUnder g j f (between v m n)) → IsTrueUnder g j (as_long u f) (between v m n)
  long_make f m n h = true_implies g j (not_yet u) f (between v m n) ∙ step (den g j (not_yet u) (between v m n)) refl
    where
      step : (b : Bool) → den g j (not_yet u) (between v m n) ≡ b → (not b || den g j f (between v m n)) ≡ true
      step true e = h (not_yet_use m n e)
      step false e = refl

  module _ (ds : Declarations) (fits : IsSettingOf b g) (knows : (o : ProcRef) (t : ProcedureType) → procedure_type ds None o ≡ Some t → procedure b o ≡ Some t) (gs : List Global) where
    module _ (o p : ProcRef) (t z : ProcedureType) (e : procedure_type ds None o ≡ Some t) (f : procedure_type ds None p ≡ Some z) (names : HaveOwnNames t.params) (others : HaveOwnNames z.params)
        (left_leaves : Leaves g gs (let x = oracle_there ds b g fits knows o t e in x.means)) (right_leaves : Leaves g gs (let y = oracle_there ds b g fits knows p z f in y.means)) where
      abbrev l : IsThere ds g o
      l = oracle_there ds b g fits knows o t e

      abbrev r : IsThere ds g p
      r = oracle_there ds b g fits knows p z f

      left_params : params_of l.means ≡ t.params
      left_params = let x = l.typed in x.params

      right_params : params_of r.means ≡ z.params
      right_params = let x = r.typed in x.params

      pub pair_until : Stands g j v (keep_until u o t p z) → Stands g j v (keeps u.event p) → AreKeepingUntil ds g gs event kept o p
      pair_until stands keeping = record {
        left = l;
        right = r;
        left_names = subst HaveOwnNames (sym left_params) names;
        right_names = subst HaveOwnNames (sym right_params) others;
        left_leaves = left_leaves;
        right_leaves = right_leaves;
        judged = judged;
        event = keeps_event r.means r.there;
      }
        where
          judged : AreJudgedUntil g event kept t.result l.means r.means
          judged m n same before is =
              subst (λ z. z) (λ k. Coupling (open_until.Until event (λ a c. (read_local g.types a result_name t.result ≡ read_local g.types c result_name t.result) × (kept a.globals c.globals ≡ true)))
              (from_frame g (l.there k) m) (outcome_denominator g (l.there k)) (from_frame g (r.there k) n) (outcome_denominator g (r.there k)))
              (coupling_weakening (λ a c h. ends a c h) (stands m n starts))
            where
              params : held_in g m t.params ≡ held_in g n z.params
              params = ap (held_in g m) (sym left_params) ∙ sym (held_params g l.means m) ∙ same ∙ held_params g r.means n ∙ ap (held_in g n) right_params

              starts : IsTrueUnder g j (and_form (followed_by (not_yet u) (same_params t.params z.params)) u.kept) (between v m n)
              starts =
                  and_make g j (followed_by (not_yet u) (same_params t.params z.params)) u.kept (between v m n)
                  (followed_make g j v m n (not_yet u) (same_params t.params z.params) (not_yet_make m n before) (params_make g j v m n t.params z.params params))
                  (related_is b g outer j fair v u.kept w m n ∙ is)

              ends : (a c : Memory) → IsTrueUnder g j (as_long u (and_form (same_result t.result) u.kept)) (between v a c) →
                  open_until.Until event (λ a c. (read_local g.types a result_name t.result ≡ read_local g.types c result_name t.result) × (kept a.globals c.globals ≡ true)) a c
              ends a c h e =
                  let k = and_use g j (same_result t.result) u.kept (between v a c) (long_use (and_form (same_result t.result) u.kept) a c h e) in
                  ((same_is g j v a c (var.Local result_name) t.result).0 k.0, sym (related_is b g outer j fair v u.kept w a c) ∙ k.1)

          keeps_event : (s : Routine) → g.procedure p ≡ Some s → IsJudgedToKeep g event s
          keeps_event s there m is =
              subst (λ z. Every (λ a. event a.globals ≡ true) (from_frame g z m)) there
              (Every-weaken {P = λ n. IsTrueUnder g j u.event (at v n)} (from_frame g (g.procedure p) m) (λ n h. sym (property_is b g outer j fair v u.event we n) ∙ h)
              (keeping m (property_is b g outer j fair v u.event we m ∙ is)))

    abbrev AreKept : List ProcRef → List ProcRef → Type 0
    AreKept os ps = EachPair (AreKeepingUntil ds g gs event kept) os ps

    -- each pair does so, where the goals of all stand
    abbrev AreShown : List ProcRef → List ProcRef → Type 0
    AreShown os ps = (Hs : List Goal) → each_keep_until ds u os ps ≡ given Hs → AllByRecursion (Stands g j v) Hs → AreKept os ps

    abbrev Leaving : List ProcRef → Type 0
    Leaving os = AreLeaving ds b g fits knows outer j fair v u.kept w gs os

    pub each_until : (os ps : List ProcRef) → Leaving os → Leaving ps → (Gs : List Goal) → each_keep_until ds u os ps ≡ given Gs → AllByRecursion (Stands g j v) Gs → AreKept os ps
    each_until [] ps l r Gs e h = tt
    each_until (o ∷ os) [] l r Gs e h = tt
    each_until (o ∷ os) (p ∷ ps) l r Gs e h = by_types (procedure_type ds None o) refl (procedure_type ds None p) refl e
        (λ Hs f k. each_until os ps (λ q m. l q (inr m)) (λ q m. r q (inr m)) Hs f k)
      where
        by_names : (t z : ProcedureType) → procedure_type ds None o ≡ Some t → procedure_type ds None p ≡ Some z → (c : Bool) → (own_names t.params && own_names z.params) ≡ c →
            (if c then in_front (keep_until u o t p z) (in_front (keeps u.event p) (each_keep_until ds u os ps)) else refusing Shape) ≡ given Gs → AreShown os ps → AreKept (o ∷ os) (p ∷ ps)
        by_names t z f k true n e go =
            let x = given_front (keep_until u o t p z) (in_front (keeps u.event p) (each_keep_until ds u os ps)) Gs e in
            let y : AllByRecursion (Stands g j v) (keep_until u o t p z ∷ x.0) = subst (AllByRecursion (Stands g j v)) (sym x.2) h in
            let a = given_front (keeps u.event p) (each_keep_until ds u os ps) x.0 x.1 in
            let d : AllByRecursion (Stands g j v) (keeps u.event p ∷ a.0) = subst (AllByRecursion (Stands g j v)) (sym a.2) y.1 in
            let c = and_parts (own_names t.params) (own_names z.params) n in (
              pair_until o p t z f k (own t.params c.0) (own z.params c.1) (l o (inl refl) t f) (r p (inl refl) z k) y.0 d.0,
              go a.0 a.1 d.1,
            )
        by_names t z f k false n e go = refused_given Shape Gs e

        by_types : (f : Option ProcedureType) → procedure_type ds None o ≡ f → (k : Option ProcedureType) → procedure_type ds None p ≡ k → with_until u o f p k (each_keep_until ds u os ps) ≡ given Gs → AreShown os ps → AreKept (o ∷ os) (p ∷ ps)
        by_types None f k n e go = refused_given Shape Gs e
        by_types (Some t) f None n e go = refused_given Shape Gs e
        by_types (Some t) f (Some z) n e go = by_names t z f n (own_names t.params && own_names z.params) refl e go
