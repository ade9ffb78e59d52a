-- `proc (I)` on two procedures that are one procedure of an abstract module is sound.
use Rattle.std.proofs.Common.{◌≡◌, Bool, true, false, ◌&&◌, if◌then◌else◌, List, [], ◌∷◌, ◌++◌, map, Option, Some, None, refl, ap, sym, ◌∙◌, subst}
use Rattle.std.proofs.lemmas.Bool.{and_from, and_parts}
use Rattle.std.specs.List.{AllByRecursion}
use Rattle.gb_core.specs.declared.refusal.Why.TheVariants.{Shape, SideCondition}
use Rattle.gb_core.specs.SameTypes.{ty_eq}
use Rattle.gb_core.proofs.SameTypes.{ty_eq-Decides}
use Rattle.gb_core.specs.declared.ty.Ty.TheVariants as ty
use Rattle.gb_core.specs.declared.var.Var.{Var}
use Rattle.gb_core.specs.declared.var.Var.TheVariants as var
use Rattle.gb_dist.specs.Coupling.{Coupling}
use Rattle.gb_dist.proofs.Basic.{coupling_weakening}
use Rattle.gb_terms.specs.declared.decl.TypedName.{TypedName}
use Rattle.gb_terms.specs.declared.module.ProcRef.{ProcRef}
use Rattle.gb_terms.specs.declared.term.Term.{Term}
use Rattle.gb_meaning.specs.Judgments.{Judge, IsFair, IsTrueUnder, from_frame, outcome_denominator}
use Rattle.gb_meaning.specs.Memory.{Memory, read, read_local, result_name}
use Rattle.gb_meaning.specs.Program.{Routine}
use Rattle.gb_meaning.specs.Runs.{outcomes, parameter_values, routine_denominator}
use Rattle.gb_meaning.specs.Setting.{Setting}
use Rattle.gb_meaning.specs.State.{State, between}
use Rattle.gb_meaning.specs.Declared.{declared}
use Rattle.gb_goal.specs.declared.sequent.Sequent.{Sequent}
use Rattle.gb_goal.specs.Answers.Answer.{given}
use Rattle.gb_goal.specs.Goal.{Goal}
use Rattle.gb_goal.specs.Goal.Code.{procedure}
use Rattle.gb_goal.specs.Goal.Goal.{equiv}
use Rattle.gb_goal.specs.Interfaces.{ProcedureType, same_params as have_same_types}
use Rattle.gb_goal.specs.Rows.{refusing}
use Rattle.gb_goal.specs.Scope.{Declarations}
use Rattle.gb_mods.specs.Exclusions.{exclusions}
use Rattle.gb_typing.specs.Context.{Context, Frame, with_sides}
use Rattle.gb_typing.specs.Context as context
use Rattle.gb_typing.specs.Fits.{IsOfType, IsSettingOf}
use Rattle.gb_typing.specs.Forms.{and_form, implies_form}
use Rattle.gb_typing.specs.Goals.{IsGoalOver, IsTypedGoal}
use Rattle.gb_typing.specs.Meaning.{Stands}
use Rattle.gb_typing.specs.Rules.{ImpliesIn, IsSettingOver, outermost}
use Rattle.gb_typing.specs.Scopes.{context_of, HaveOwnNames, IsTypedScope}
use Rattle.gb_typing.specs.Sequents.{IsTypedSequent, of_sequent, two}
use Rattle.gb_typing.specs.Typing.{IsForm, after, before}
use Rattle.gb_typing.proofs.Ambient.{pair_meaning, pair_typed}
use Rattle.gb_typing.proofs.Forms.{and_make, and_typed, and_use, implies_typed, implies_use}
use Rattle.gb_typing.proofs.Given.{refused_given}
use Rattle.gb_typing.proofs.Together.{goal_together}
use Rattle.gb_typing.proofs.Variables.{variable_finite}
use Rattle.gb_prog.proofs.There.{abstract_named}
use Rattle.gb_bodies.specs.Conseq.{pair_leads}
use Rattle.gb_call.specs.Call.{unless_clash}
use Rattle.gb_call.proofs.After.{all_append}
use Rattle.gb_adv.specs.Abstract.{AbstractProcedure, abstract_procedure, same_abstract}
use Rattle.gb_prog.specs.BothAnyOf.{EachPair}
use Rattle.gb_adv.specs.Equations.{followed_by, same_owner, same_params, same_result}
use Rattle.gb_adv.specs.Oracles.{each_keep_both, meeting_both, writes_of}
use Rattle.gb_adv.specs.OwnNames.{own_names}
use Rattle.gb_adv.specs.Proc.{both_goals, by_writes, end_alike, on_both, start_alike}
use Rattle.gb_adv.proofs.Agreed.{followed_use, params_use, same_is}
use Rattle.gb_adv.proofs.AskedTypes.{AreAlike, asked_alike}
use Rattle.gb_adv.proofs.BothCalls.{AreEnds, both_end, one_type, right_meant, same_name}
use Rattle.gb_adv.proofs.Called.{knows}
use Rattle.gb_adv.proofs.EquationsTyped.{followed_typed, owner_typed, own_types, params_typed, result_typed}
use Rattle.gb_adv.proofs.Found.{AreOne, IsFound, are_one, procedure_found}
use Rattle.gb_adv.proofs.KeptForms.{over_both_locals}
use Rattle.gb_adv.proofs.KeptPairs.{held_params}
use Rattle.gb_prog.proofs.Signatures.{IsOfVariables, type_variables}
use Rattle.gb_adv.proofs.Left.{MeetNone, both_meet_none}
use Rattle.gb_adv.proofs.OracleGoals.{all_parts, each_keep_both_typed, finite_types, given_before, own}

same_itself : (ps : List TypedName) → have_same_types ps ps ≡ true
same_itself [] = refl
same_itself (p ∷ ps) = and_from (ty_eq p.ty p.ty) (have_same_types ps ps) ((ty_eq-Decides p.ty p.ty).1 refl) (same_itself ps)

module _ (ds : Declarations) (scoped : IsTypedScope (declared ds)) (t : Sequent) (typed : IsTypedSequent (context_of (declared ds)) t) (i : Term) where
  abbrev c : Context
  c = of_sequent (context_of (declared ds)) t typed.frames

  module _ (outer : c ≡ outermost c) (ls rs : List TypedName) (r s : ProcRef) (p q : Term) (w : IsGoalOver c ls rs (equiv (procedure r) (procedure s) p q)) (kept : IsForm (two c [] []) i) where
    module _ (f h : AbstractProcedure) (left_found : IsFound ds r f) (right_found : IsFound ds s h) (one : AreOne f h) (names : HaveOwnNames f.type.params) where
      left_there : context.procedure c r ≡ Some f.type
      left_there = knows ds scoped t typed r f.type left_found.known

      right_there : context.procedure c s ≡ Some h.type
      right_there = knows ds scoped t typed s h.type right_found.known

      same : f.type ≡ h.type
      same = one_type ds scoped t typed r s f h left_found right_found one

      alike : EachPair (AreAlike ds) f.oracles h.oracles
      alike =
          asked_alike ds scoped r s f.owner f.oracles h.oracles left_found.meant (right_meant ds scoped t typed r s f h left_found right_found one)
          (same_name ds scoped t typed r s f h left_found right_found one)

      variables : IsOfVariables f.type
      variables = type_variables ds r f.owner f.oracles left_found.meant f.type left_found.known scoped

      owner_there : c.has_globals f.owner ≡ true
      owner_there = goal_together ds scoped f.owner t typed.frames (abstract_named ds r f.owner f.oracles left_found.meant)

      abbrev params : ProcedureType → List TypedName
      params u = u.params

      abbrev results : ProcedureType → List TypedName
      results u = record { name = result_name; ty = u.result } ∷ []

      -- Conditions.

      start_form : IsForm (with_sides c (Some (params f.type)) (Some (params h.type))) (start_alike f h i)
      start_form =
          and_typed (with_sides c (Some (params f.type)) (Some (params h.type))) (followed_by i (same_params (params f.type) (params h.type))) (same_owner f.owner)
          (followed_typed c (Some (params f.type)) (Some (params h.type)) i (over_both_locals c i kept (params f.type) (params h.type)) (same_params (params f.type) (params h.type))
          (params_typed c (Some (params f.type)) (Some (params h.type)) (params f.type) (params h.type) (subst (λ u. have_same_types (params f.type) (params u) ≡ true) same (same_itself (params f.type)))
          (finite_types (params f.type) variables.0) (own_types (params f.type) names) (own_types (params h.type) (subst (λ u. HaveOwnNames (params u)) same names))))
          (owner_typed c f.owner owner_there (params f.type) (params h.type))

      end_form : IsForm (with_sides c (Some (results f.type)) (Some (results h.type))) (end_alike f i)
      end_form =
          let R = with_sides c (Some (results f.type)) (Some (results h.type)) in
          and_typed R (and_form i (same_result f.type.result)) (same_owner f.owner)
          (and_typed R i (same_result f.type.result) (over_both_locals c i kept (results f.type) (results h.type))
          (result_typed c f.type.result h.type.result (variable_finite f.type.result variables.1) (ap (λ (u : ProcedureType). u.result) same)))
          (owner_typed c f.owner owner_there (results f.type) (results h.type))

      abbrev LeftBefore : Frame
      LeftBefore = before (context.procedure c r)

      abbrev RightBefore : Frame
      RightBefore = before (context.procedure c s)

      abbrev LeftAfter : Frame
      LeftAfter = after (context.procedure c r)

      abbrev RightAfter : Frame
      RightAfter = after (context.procedure c s)

      first_form : IsForm (with_sides c LeftBefore RightBefore) (implies_form p (start_alike f h i))
      first_form =
          implies_typed (with_sides c LeftBefore RightBefore) p (start_alike f h i) w.3
          (subst (λ z. z) (λ k. IsForm (with_sides c (before (sym left_there k)) (before (sym right_there k))) (start_alike f h i)) start_form)

      last_form : IsForm (with_sides c LeftAfter RightAfter) (implies_form (end_alike f i) q)
      last_form =
          implies_typed (with_sides c LeftAfter RightAfter) (end_alike f i) q
          (subst (λ z. z) (λ k. IsForm (with_sides c (after (sym left_there k)) (after (sym right_there k))) (end_alike f i)) end_form) w.4

      abbrev last_goals : List Goal
      last_goals = pair_leads p (start_alike f h i) ∷ pair_leads (end_alike f i) q ∷ []

      module _ (W U : List Var) (left_known : writes_of ds f.oracles ≡ Some W) (right_known : writes_of ds h.oracles ≡ Some U) (clear : MeetNone (exclusions ds) f.owner i W U)
          (Ks : List Goal) (shown : each_keep_both ds i f.oracles h.oracles ≡ given Ks) where
        goals_typed : AllByRecursion (IsTypedGoal c) (Ks ++ last_goals)
        goals_typed =
            all_append (IsTypedGoal c) Ks last_goals (each_keep_both_typed ds c (knows ds scoped t typed) i kept f.oracles h.oracles alike Ks shown) (
              (ls, rs, pair_typed c outer LeftBefore RightBefore (params f.type) (params h.type) (ap before left_there) (ap before right_there) (implies_form p (start_alike f h i)) first_form),
              ((ls, rs, pair_typed c outer LeftAfter RightAfter (results f.type) (results h.type) (ap after left_there) (ap after right_there) (implies_form (end_alike f i) q) last_form), tt),
            )

        module _ (g : Setting) (fits : IsSettingOf c g) (over : IsSettingOver (declared ds) g) (j : Judge) (fair : IsFair g j) (v : State) (stand : AllByRecursion (Stands g j v) (Ks ++ last_goals)) where
          fits_there : IsSettingOf (outermost c) g
          fits_there = subst (λ d. IsSettingOf d g) outer fits

          kept_form : IsForm (with_sides (outermost c) (Some []) (Some [])) i
          kept_form = subst (λ d. IsForm (with_sides d (Some []) (Some [])) i) outer kept

          parts : AllByRecursion (Stands g j v) Ks × AllByRecursion (Stands g j v) last_goals
          parts = all_parts (Stands g j v) Ks last_goals stand

          -- what holds where the procedures start
          record AreStarts (m n : Memory) : Type 0 where
            holds : IsTrueUnder g j i (between v m n)
            held : (a b : Routine) → IsOfType g f.type a → IsOfType g f.type b → parameter_values g a m ≡ parameter_values g b n
            own : read g.types m (var.Glob f.owner) (ty.Glob f.owner) ≡ read g.types n (var.Glob f.owner) (ty.Glob f.owner)

          starts : (m n : Memory) → IsTrueUnder g j p (between v m n) → AreStarts m n
          starts m n x =
              let e = and_use g j (followed_by i (same_params (params f.type) (params h.type))) (same_owner f.owner) (between v m n)
              (implies_use g j p (start_alike f h i) (between v m n)
              (pair_meaning c outer LeftBefore RightBefore (params f.type) (params h.type) (ap before left_there) (ap before right_there) (implies_form p (start_alike f h i)) first_form g fits j fair v parts.1.0 m n) x) in
              let k = followed_use g j v m n i (same_params (params f.type) (params h.type)) e.0 in
              record {
                holds = k.0;
                held = λ a b y z. held_params g a m
                    ∙ (λ d. map (λ (x : TypedName). read_local g.types m x.name x.ty) ((let e = y in e.params) d))
                    ∙ params_use g j v m n (params f.type) (subst (λ u. AllByRecursion (λ e. IsTrueUnder g j e (between v m n)) (same_params (params f.type) (params u))) (sym same) k.1)
                    ∙ (λ d. map (λ (x : TypedName). read_local g.types n x.name x.ty) (sym (let e = z in e.params) d))
                    ∙ sym (held_params g b n);
                own = (same_is g j v m n (var.Glob f.owner) (ty.Glob f.owner)).0 e.1;
              }

          -- what holds where they end
          ends : (m n x y : Memory) → AreEnds g j v i f W U m n x y → IsTrueUnder g j q (between v x y)
          ends m n x y e =
              implies_use g j (end_alike f i) q (between v x y)
              (pair_meaning c outer LeftAfter RightAfter (results f.type) (results h.type) (ap after left_there) (ap after right_there) (implies_form (end_alike f i) q) last_form g fits j fair v parts.1.1.0 x y)
              (and_make g j (and_form i (same_result f.type.result)) (same_owner f.owner) (between v x y)
              (and_make g j i (same_result f.type.result) (between v x y) e.kept
              ((same_is g j v x y (var.Local result_name) f.type.result).1 (ap (λ z. read_local g.types (record { globals = x.globals; frame = z }) result_name f.type.result) e.frames)))
              ((same_is g j v x y (var.Glob f.owner) (ty.Glob f.owner)).1 e.own))

          coupled : (m n : Memory) → IsTrueUnder g j p (between v m n) → (a b : Routine) → g.procedure r ≡ Some a → g.procedure s ≡ Some b → IsOfType g f.type a → IsOfType g f.type b →
              Coupling (λ x y. IsTrueUnder g j q (between v x y)) (from_frame g (Some a) m) (routine_denominator g a) (from_frame g (Some b) n) (routine_denominator g b)
          coupled m n x a b d e y z =
              let k = starts m n x in
              coupling_weakening {Q = AreEnds g j v i f W U m n} (λ x y u. ends m n x y u)
              (subst (λ vs. Coupling (AreEnds g j v i f W U m n) (from_frame g (Some a) m) (routine_denominator g a) (outcomes g b vs n.globals) (routine_denominator g b)) (k.held a b y z)
              (both_end ds scoped t typed r s f h left_found right_found one W U left_known right_known i clear kept_form g fits fits_there over j fair v Ks shown parts.0 a b d e y z (parameter_values g a m) m n k.own k.holds))

        goals_imply : ImpliesIn (declared ds) c (Ks ++ last_goals) (equiv (procedure r) (procedure s) p q)
        goals_imply g fits over j fair v fit stand m n x =
            let a = fits.procedures r f.type left_there in
            let b = fits.procedures s h.type right_there in
            subst (λ z. z) (λ k. Coupling (λ x y. IsTrueUnder g j q (between v x y)) (from_frame g (sym a.1 k) m) (outcome_denominator g (sym a.1 k)) (from_frame g (sym b.1 k) n) (outcome_denominator g (sym b.1 k)))
            (coupled g fits over j fair v stand m n x a.0 b.0 a.1 b.1 a.2 (subst (λ u. IsOfType g u b.0) (sym same) b.2))

    -- the row, step by step
    module _ (Gs : List Goal) where
      abbrev IsSoundSo : List Goal → Type 0
      IsSoundSo Hs = AllByRecursion (IsTypedGoal c) Hs × ImpliesIn (declared ds) c Hs (equiv (procedure r) (procedure s) p q)

      module _ (f h : AbstractProcedure) (left_found : IsFound ds r f) (right_found : IsFound ds s h) where
        by_clash : AreOne f h → HaveOwnNames f.type.params → (W U : List Var) → writes_of ds f.oracles ≡ Some W → writes_of ds h.oracles ≡ Some U → (x : Option Var) → meeting_both (exclusions ds) f.owner i W U ≡ x →
            unless_clash x (both_goals ds f h i p q) ≡ given Gs → IsSoundSo Gs
        by_clash one names W U k l (Some x) clear e = refused_given (SideCondition x) Gs e
        by_clash one names W U k l None clear e =
            let z = given_before (each_keep_both ds i f.oracles h.oracles) (pair_leads p (start_alike f h i) ∷ pair_leads (end_alike f i) q ∷ []) Gs e in
            let m = both_meet_none (exclusions ds) f.owner i W U clear in
            subst IsSoundSo z.2 (goals_typed f h left_found right_found one names W U k l m z.0 z.1, goals_imply f h left_found right_found one names W U k l m z.0 z.1)

        by_written : AreOne f h → HaveOwnNames f.type.params → (o : Option (List Var)) → writes_of ds f.oracles ≡ o → (u : Option (List Var)) → writes_of ds h.oracles ≡ u → by_writes ds f h i p q o u ≡ given Gs → IsSoundSo Gs
        by_written one names None k u l e = refused_given Shape Gs e
        by_written one names (Some W) k None l e = refused_given Shape Gs e
        by_written one names (Some W) k (Some U) l e = by_clash one names W U k l (meeting_both (exclusions ds) f.owner i W U) refl e

        by_test : (b : Bool) → (same_abstract f h && own_names f.type.params) ≡ b → (if b then by_writes ds f h i p q (writes_of ds f.oracles) (writes_of ds h.oracles) else refusing Shape) ≡ given Gs → IsSoundSo Gs
        by_test true n e =
            let k = and_parts (same_abstract f h) (own_names f.type.params) n in
            by_written (are_one f h k.0) (own f.type.params k.1) (writes_of ds f.oracles) refl (writes_of ds h.oracles) refl e
        by_test false n e = refused_given Shape Gs e

      by_found : (o : Option AbstractProcedure) → abstract_procedure ds r ≡ o → (u : Option AbstractProcedure) → abstract_procedure ds s ≡ u → on_both ds i p q o u ≡ given Gs → IsSoundSo Gs
      by_found None k u l e = refused_given Shape Gs e
      by_found (Some f) k None l e = refused_given Shape Gs e
      by_found (Some f) k (Some h) l e = by_test f h (procedure_found ds r f k) (procedure_found ds s h l) (same_abstract f h && own_names f.type.params) refl e

      pub both_sound : on_both ds i p q (abstract_procedure ds r) (abstract_procedure ds s) ≡ given Gs → IsSoundSo Gs
      both_sound e = by_found (abstract_procedure ds r) refl (abstract_procedure ds s) refl e
