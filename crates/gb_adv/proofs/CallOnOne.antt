-- `call (_ : I)` on one body that ends with a call of a procedure of an abstract module is sound.
use Rattle.std.proofs.Common.{◌≡◌, ◌<◌, Bool, true, false, if◌then◌else◌, List, [], ◌∷◌, ◌++◌, length, Option, Some, None, refl, sym, ◌∙◌, subst, nat_lt}
use Rattle.std.proofs.lemmas.Bool.{false≢true, or_parts}
use Rattle.std.specs.List.{AllByRecursion, list_any}
use Rattle.gb_core.specs.declared.refusal.Why.TheVariants.{Shape, SideCondition}
use Rattle.gb_core.specs.declared.ty.Ty.{Ty}
use Rattle.gb_core.specs.declared.value.Value.{Value}
use Rattle.gb_core.specs.declared.var.Var.{Var}
use Rattle.gb_core.specs.declared.var.Var.TheVariants as var
use Rattle.gb_dist.specs.WeightedList.{WeightedList, Every}
use Rattle.gb_dist.proofs.Entries.{Every-bind, Every-dmap, Every-weaken}
use Rattle.gb_terms.specs.declared.decl.TypedName.{TypedName}
use Rattle.gb_terms.specs.declared.module.ProcRef.{ProcRef}
use Rattle.gb_terms.specs.declared.op.Rel.TheVariants.{AtLeast}
use Rattle.gb_terms.specs.declared.op.Side.TheVariants as side
use Rattle.gb_terms.specs.declared.term.Instr.{Instr}
use Rattle.gb_terms.specs.declared.term.Term.{Term}
use Rattle.gb_terms.specs.Equal.{var_eq}
use Rattle.gb_walk.specs.Clash.{Exclusions, variables_read}
use Rattle.gb_meaning.specs.Judgments.{Judge, IsFair, IsTrueUnder, den}
use Rattle.gb_meaning.specs.Memory.{Memory, result_in, result_name}
use Rattle.gb_meaning.specs.Names.{Map}
use Rattle.gb_meaning.specs.Program.{Routine}
use Rattle.gb_meaning.specs.Runs.{outcomes, returned}
use Rattle.gb_meaning.specs.Setting.{Setting}
use Rattle.gb_meaning.specs.State.{State, at}
use Rattle.gb_laws.specs.Finite.{IsFinite}
use Rattle.gb_laws.specs.Programs.{Take}
use Rattle.gb_meaning.specs.Declared.{declared}
use Rattle.gb_goal.specs.declared.sequent.Sequent.{Sequent}
use Rattle.gb_goal.specs.Answers.Answer.{given}
use Rattle.gb_goal.specs.Goal.{Goal}
use Rattle.gb_goal.specs.Goal.Code.{body}
use Rattle.gb_goal.specs.Goal.Goal.{hoare}
use Rattle.gb_goal.specs.Interfaces.{ProcedureType}
use Rattle.gb_goal.specs.Rows.{refusing}
use Rattle.gb_goal.specs.Scope.{Declarations}
use Rattle.gb_mods.specs.Exclusions.{exclusions}
use Rattle.gb_mods.specs.Written.{written}
use Rattle.gb_typing.specs.Context.{Context, erased, with_own}
use Rattle.gb_typing.specs.Fits.{IsSettingOf, IsStateOf}
use Rattle.gb_typing.specs.Forms.{IsKeptOff}
use Rattle.gb_typing.specs.Goals.{IsGoalOver, IsTypedGoal}
use Rattle.gb_typing.specs.Meaning.{Stands, run}
use Rattle.gb_typing.specs.Rules.{ImpliesIn, IsSettingOver, outermost}
use Rattle.gb_typing.specs.Scopes.{context_of, IsTypedScope}
use Rattle.gb_typing.specs.Sequents.{IsTypedSequent, of_sequent, one}
use Rattle.gb_typing.specs.Typing.{IsForm}
use Rattle.gb_typing.proofs.Forms.{and_typed, and_use}
use Rattle.gb_typing.proofs.Given.{refused_given, sound_given_in}
use Rattle.gb_typing.proofs.Runs.{run_append}
use Rattle.gb_typing.proofs.Spared.{Clear}
use Rattle.gb_typing.proofs.Variables.{variable_finite}
use Rattle.gb_prog.proofs.KeptOff.{kept_off}
use Rattle.gb_prog.proofs.Meanings.{means_there}
use Rattle.gb_prog.specs.Writes.{DifferIn, TypedVariable, AreIn, variables}
use Rattle.gb_prog.proofs.Likely.{FollowsAt}
use Rattle.gb_call.specs.Call.{unless_clash}
use Rattle.gb_call.specs.LastCall.{LastCall, last_call}
use Rattle.gb_call.specs.Outcomes.{Outcome, after_call, after_where, clash_after, is_among, is_read, reads_result}
use Rattle.gb_call.proofs.After.{all_append, with_result_typed, no_result_typed, is_res}
use Rattle.gb_call.proofs.AfterMeans.{with_result_means, no_result_means, reads_with_result, reads_without_result}
use Rattle.gb_call.proofs.Callees.{IsResult, every_both, alone_local, few, typed_with}
use Rattle.gb_call.proofs.Conditions.{nothing_least, after_spared, said_spared, globals_alone, left, left_alone, said_alone, said_read, with_result, without_result, no_result}
use Rattle.gb_call.proofs.LastCalls.{IsCalled}
use Rattle.gb_call.proofs.Unwritten.{procedure_left}
use Rattle.gb_adv.specs.Abstract.{AbstractCall, AbstractProcedure, abstract_call}
use Rattle.gb_adv.specs.Call.{before_call, by_written, on_one, one_goals, outcome, read_after}
use Rattle.gb_prog.specs.Kept.{IsKeeping}
use Rattle.gb_adv.specs.Oracles.{each_keeps, meeting}
use Rattle.gb_adv.proofs.AskedTypes.{asked_alike}
use Rattle.gb_adv.proofs.Called.{each_outcome, knows}
use Rattle.gb_adv.proofs.Called as called
use Rattle.gb_adv.proofs.Found.{IsFound, IsFoundCall, call_found}
use Rattle.gb_adv.proofs.KeptForms.{over_locals}
use Rattle.gb_adv.proofs.KeptOracles.{each_kept}
use Rattle.gb_prog.proofs.Kept.{abstract_kept}
use Rattle.gb_prog.proofs.Meanings.{both_mean}
use Rattle.gb_prog.proofs.Signatures.{type_variables}
use Rattle.gb_adv.proofs.Left.{none_meets}
use Rattle.gb_adv.proofs.OracleGoals.{IsKnownType, all_parts, each_keeps_typed, first_known}
use Rattle.gb_adv.proofs.Property.{property, property_apart, property_is}

module _ (ds : Declarations) (scoped : IsTypedScope (declared ds)) (t : Sequent) (typed : IsTypedSequent (context_of (declared ds)) t) (i : Term) where
  abbrev c : Context
  c = of_sequent (context_of (declared ds)) t typed.frames

  module _ (outer : c ≡ outermost c) (ls rs : List TypedName) (is : List Instr) (p q : Term) (w : IsGoalOver c ls rs (hoare (body is) p q)) (kept : IsForm (one c []) i) where
    module _ (k : AbstractCall) (found : IsFoundCall ds is k) (U : List Var) (u : written ds k.call.procedure ≡ Some U) (many : length k.call.targets < 9)
        (meets : meeting (exclusions ds) k.called.owner (variables_read side.Own i) ≡ None) (clear : clash_after (exclusions ds) side.Own k.call.targets U i q ≡ None)
        (W : List TypedVariable) (z : read_after ds side.Own k i q U ≡ Some W) where
      abbrev l : LastCall
      l = k.call

      abbrev f : AbstractProcedure
      f = k.called

      abbrev T : ProcedureType
      T = f.type

      abbrev R : Ty
      R = T.result

      abbrev os : List ProcRef
      os = f.oracles

      meant : IsFound ds l.procedure f
      meant = found.procedure

      abbrev ends : IsCalled c ls is l
      ends = called.ends ds scoped t typed outer ls is w.0 l found.last T meant.known

      finite_result : IsFinite R
      finite_result = let x = type_variables ds l.procedure f.owner os meant.meant T meant.known scoped in variable_finite R x.1

      abbrev takes : Take (erased (outermost c)) ls l.targets R
      takes = called.takes ds scoped t typed outer ls is w.0 l found.last T meant.known

      known : AllByRecursion (IsKnownType ds) os
      known = first_known ds os (asked_alike ds scoped l.procedure l.procedure f.owner os os meant.meant meant.meant refl)

      abbrev left_over : List Var
      left_over = left side.Own tt l.targets U i q true

      are : (variables W ≡ left_over) × AreIn (outermost c) (Some []) W
      are = typed_with ds scoped t typed left_over W z

      -- what is kept and what is to hold after the call, in the context without binders
      kept_form : IsForm (with_own (outermost c) (Some [])) i
      kept_form = subst (λ d. IsForm (with_own d (Some [])) i) outer kept

      abbrev result_frame : List TypedName
      result_frame = record { name = result_name; ty = R } ∷ []

      said_form : IsForm (with_own (outermost c) (Some result_frame)) i
      said_form = over_locals (outermost c) i kept_form result_frame

      end_form : IsForm (with_own (outermost c) (Some ls)) q
      end_form = subst (λ d. IsForm (with_own d (Some ls)) q) outer w.2

      abbrev o : Outcome
      o = outcome side.Own k W

      abbrev occurs : Bool
      occurs = reads_result o i q

      -- where the result doesn't occur, neither form reads it
      result_unread : occurs ≡ false → (is_read side.Own i (var.Local result_name) ≡ false) × (list_any (is_read side.Own q) l.targets ≡ false)
      result_unread h = or_parts (is_read side.Own i (var.Local result_name)) (list_any (is_read side.Own q) l.targets) h

      after_form : (b : Bool) → occurs ≡ b → IsForm (with_own (outermost c) (Some ls)) (after_where AtLeast b o i q)
      after_form true h = with_result_typed c ls R W are.1 finite_result AtLeast i q said_form end_form l.targets takes many
      after_form false h = no_result_typed c ls R W are.1 AtLeast i q said_form (unread_clear (variables_read side.Own i) (result_unread h).0) end_form
        where
          unread_clear : (xs : List Var) → is_among xs (var.Local result_name) ≡ false → Clear side.Own tt (is_res c ls R W are.1) xs
          unread_clear [] h = tt
          unread_clear (x ∷ xs) h = let y = or_parts (var_eq (var.Local result_name) x) (is_among xs (var.Local result_name)) h in (y.0, unread_clear xs y.1)

      before_form : IsForm (with_own c (Some ls)) (before_call k W i q)
      before_form =
          and_typed (with_own c (Some ls)) i (after_call AtLeast o i q) (over_locals c i kept ls)
          (subst (λ d. IsForm (with_own d (Some ls)) (after_call AtLeast o i q)) (sym outer) (after_form occurs refl))

      goals_typed : AllByRecursion (IsTypedGoal c) (each_keeps i os ++ hoare (body l.before) p (before_call k W i q) ∷ [])
      goals_typed =
          let x = ends in
          all_append (IsTypedGoal c) (each_keeps i os) (hoare (body l.before) p (before_call k W i q) ∷ []) (each_keeps_typed ds c (knows ds scoped t typed) i kept os known)
          ((ls, rs, (x.rest, w.1, before_form)), tt)

      abbrev ex : Exclusions
      ex = exclusions ds

      module _ (g : Setting) (fits : IsSettingOf c g) (over : IsSettingOver (declared ds) g) (j : Judge) (fair : IsFair g j) (v : State) (fit : IsStateOf c g v) where
        fits_there : IsSettingOf (outermost c) g
        fits_there = subst (λ d. IsSettingOf d g) outer fits

        state_there : IsStateOf (outermost c) g v
        state_there = subst (λ d. IsStateOf d g v) outer fit

        off : IsKeptOff ex g
        off = kept_off ds scoped g over

        abbrev routine : Routine
        routine = called.routine_in ds scoped t typed outer ls is w.0 l found.last T meant.known g fits

        is_routine : g.procedure l.procedure ≡ Some routine
        is_routine = called.is_routine ds scoped t typed outer ls is w.0 l found.last T meant.known g fits

        abbrev argument_values : Memory → List Value
        argument_values n = called.argument_values ds scoped t typed outer ls is w.0 l found.last T meant.known g v n

        -- the outcomes of the call
        abbrev D : Memory → WeightedList Memory
        D n = outcomes g routine (argument_values n) n.globals

        abbrev keeps_it : Map → Bool
        keeps_it = property c g fits_there j fair v i kept_form

        -- One outcome of the call: what is kept leads to what is to hold after the call.
        module _ (m n : Memory) (has_result : IsResult g R n) (differs : DifferIn g.types U m (record { globals = n.globals; frame = m.frame })) where
          ends_there : (b : Bool) → occurs ≡ b → IsTrueUnder g j (after_where AtLeast b o i q) (at v m) → FollowsAt AtLeast (den g j q (at v (returned g l.targets m n))) (den g j i (at v n))
          ends_there true h x =
              let S = after_spared side.Own tt l.targets U i q true ex (nothing_least _ clear) _ end_form.typed (λ f. absurd (false≢true (sym f))) in
              let Z = said_spared side.Own tt l.targets U i q true ex (nothing_least _ clear) _ said_form.typed (λ f. absurd (false≢true (sym f))) in
              with_result_means c ls R W are.1 g fits_there j fair v state_there m n U differs S.readable (globals_alone side.Own tt l.targets U i q true W are.0 g ex off S)
              finite_result l.targets takes many (result_in n) has_result.0 has_result.1 (left_alone side.Own tt l.targets U i q true W are.0 g ex off S) (with_result side.Own tt l.targets U i q true W are.0 g ex off S)
              AtLeast i q said_form Z.readable Z.within ((λ r p f. alone_local g result_name r f), said_alone side.Own tt l.targets U i q true W are.0 g ex off Z)
              (reads_with_result c ls R W are.1 g fits_there j fair v state_there m n finite_result U differs Z.readable (said_read side.Own tt l.targets U i q true W are.0 g ex off Z))
              end_form S.within x
          ends_there false h x =
              let S = after_spared side.Own tt l.targets U i q false ex (nothing_least _ clear) _ end_form.typed (λ f. (result_unread h).1) in
              let Z = said_spared side.Own tt l.targets U i q false ex (nothing_least _ clear) _ said_form.typed (λ f. (result_unread h).0) in
              no_result_means c ls R W are.1 g fits_there j fair v state_there m n U differs S.readable (globals_alone side.Own tt l.targets U i q false W are.0 g ex off S)
              l.targets (result_in n) (without_result side.Own tt l.targets U i q false W are.0 g ex off S refl)
              AtLeast i q said_form Z.readable Z.within (said_alone side.Own tt l.targets U i q false W are.0 g ex off Z)
              (reads_without_result c ls R W are.1 g fits_there j fair v state_there m n finite_result U differs Z.readable (said_read side.Own tt l.targets U i q false W are.0 g ex off Z) (no_result side.Own tt l.targets U i q false W are.0 g ex off Z refl))
              end_form S.within x

        each_differs : (n : Memory) → Every (λ o. IsResult g R o × DifferIn g.types U n (record { globals = o.globals; frame = n.frame })) (D n)
        each_differs n =
            each_outcome g T routine (called.of_type ds scoped t typed outer ls is w.0 l found.last T meant.known g fits) U
            (λ x s. procedure_left g x ds (means_there ds scoped g over) l.procedure U u s routine is_routine) (argument_values n) n

        -- the oracles keep the form, so each outcome has it, and what is to hold after the call holds
        module _ (oracles_keep : AllByRecursion (IsKeeping ds g keeps_it) os) (n : Memory) (x : IsTrueUnder g j (before_call k W i q) (at v n)) where
          parts : IsTrueUnder g j i (at v n) × IsTrueUnder g j (after_call AtLeast o i q) (at v n)
          parts = and_use g j i (after_call AtLeast o i q) (at v n) x

          each_kept_so : Every (λ o. IsTrueUnder g j i (at v o)) (D n)
          each_kept_so =
              Every-weaken {P = λ o. keeps_it o.globals ≡ true} (D n) (λ o y. property_is c g fits_there j fair v i kept_form o ∙ y)
              (abstract_kept ds g f.owner os os l.procedure l.procedure (both_mean ds scoped g over l.procedure l.procedure f.owner os os meant.meant meant.meant refl) keeps_it oracles_keep
              (property_apart c g fits_there j fair v i kept_form ex off f.owner (none_meets ex f.owner (variables_read side.Own i) meets)) routine is_routine (argument_values n) n.globals
              (sym (property_is c g fits_there j fair v i kept_form n) ∙ parts.0))

          each_follows : Every (λ o. FollowsAt AtLeast (den g j q (at v (returned g l.targets n o))) (den g j i (at v o))) (D n)
          each_follows =
              Every-weaken {P = λ o. IsResult g R o × DifferIn g.types U n (record { globals = o.globals; frame = n.frame })} (D n) (λ o y. ends_there n o y.0 y.1 occurs refl parts.1) (each_differs n)

          after_one : Every (λ o. IsTrueUnder g j q (at v o)) (run g v ((let e = ends in e.last) ∷ []) n)
          after_one =
              subst (Every (λ o. IsTrueUnder g j q (at v o))) (sym (called.call_run ds scoped t typed outer ls is w.0 l found.last T meant.known g fits v n))
              (Every-dmap {P = λ o. FollowsAt AtLeast (den g j q (at v (returned g l.targets n o))) (den g j i (at v o)) × IsTrueUnder g j i (at v o)} (λ o. IsTrueUnder g j q (at v o)) (returned g l.targets n) (D n) (λ o y. y.0 y.1)
              (every_both (λ o. FollowsAt AtLeast (den g j q (at v (returned g l.targets n o))) (den g j i (at v o))) (λ o. IsTrueUnder g j i (at v o)) (D n) each_follows each_kept_so))

      goals_imply : ImpliesIn (declared ds) c (each_keeps i os ++ hoare (body l.before) p (before_call k W i q) ∷ []) (hoare (body is) p q)
      goals_imply g fits over j fair v fit h m x =
          let e = ends in
          let y = all_parts (Stands g j v) (each_keeps i os) (hoare (body l.before) p (before_call k W i q) ∷ []) h in
          let oracles_keep = each_kept ds c g fits (knows ds scoped t typed) (fits_there g fits over j fair v fit) j fair v i kept_form os known y.0 in
          subst (λ b. Every (λ n. IsTrueUnder g j q (at v n)) (run g v b m)) (sym e.shape)
          (subst (Every (λ n. IsTrueUnder g j q (at v n))) (sym (run_append g v l.before (e.last ∷ []) m))
          (Every-bind (λ n. IsTrueUnder g j (before_call k W i q) (at v n)) (λ n. IsTrueUnder g j q (at v n)) (run g v l.before m) (λ n. run g v (e.last ∷ []) n) (y.1.0 m x)
          (λ n r. after_one g fits over j fair v fit oracles_keep n r)))

    -- the row, step by step
    module _ (Gs : List Goal) where
      abbrev Result : Type 0
      Result = AllByRecursion (IsTypedGoal c) Gs × ImpliesIn (declared ds) c Gs (hoare (body is) p q)

      module _ (k : AbstractCall) (found : IsFoundCall ds is k) (U : List Var) (u : written ds k.call.procedure ≡ Some U) where
        by_read : length k.call.targets < 9 → meeting (exclusions ds) k.called.owner (variables_read side.Own i) ≡ None → clash_after (exclusions ds) side.Own k.call.targets U i q ≡ None →
            (r : Option (List TypedVariable)) → read_after ds side.Own k i q U ≡ r → one_goals k i p q r ≡ given Gs → Result
        by_read many meets clear None z h = refused_given Shape Gs h
        by_read many meets clear (Some W) z h =
            sound_given_in (declared ds) c (hoare (body is) p q) (each_keeps i k.called.oracles ++ hoare (body k.call.before) p (before_call k W i q) ∷ []) Gs
            (goals_typed k found U u many meets clear W z, goals_imply k found U u many meets clear W z) h

        by_clash : length k.call.targets < 9 → meeting (exclusions ds) k.called.owner (variables_read side.Own i) ≡ None → (x : Option Var) → clash_after (exclusions ds) side.Own k.call.targets U i q ≡ x →
            unless_clash x (one_goals k i p q (read_after ds side.Own k i q U)) ≡ given Gs → Result
        by_clash many meets (Some x) clear h = refused_given (SideCondition x) Gs h
        by_clash many meets None clear h = by_read many meets clear (read_after ds side.Own k i q U) refl h

        by_meeting : length k.call.targets < 9 → (x : Option Var) → meeting (exclusions ds) k.called.owner (variables_read side.Own i) ≡ x →
            unless_clash x (unless_clash (clash_after (exclusions ds) side.Own k.call.targets U i q) (one_goals k i p q (read_after ds side.Own k i q U))) ≡ given Gs → Result
        by_meeting many (Some x) meets h = refused_given (SideCondition x) Gs h
        by_meeting many None meets h = by_clash many meets (clash_after (exclusions ds) side.Own k.call.targets U i q) refl h

      by_writes : (k : AbstractCall) → IsFoundCall ds is k → length k.call.targets < 9 → (o : Option (List Var)) → written ds k.call.procedure ≡ o → by_written ds k i p q o ≡ given Gs → Result
      by_writes k found many None u h = refused_given Shape Gs h
      by_writes k found many (Some U) u h = by_meeting k found U u many (meeting (exclusions ds) k.called.owner (variables_read side.Own i)) refl h

      by_many : (k : AbstractCall) → IsFoundCall ds is k → (b : Bool) → nat_lt (length k.call.targets) 9 ≡ b → (if b then by_written ds k i p q (written ds k.call.procedure) else refusing Shape) ≡ given Gs → Result
      by_many k found true n h = by_writes k found (few k.call.targets n) (written ds k.call.procedure) refl h
      by_many k found false n h = refused_given Shape Gs h

      by_call : (o : Option AbstractCall) → abstract_call ds (last_call is) ≡ o → on_one ds i p q o ≡ given Gs → Result
      by_call None e h = refused_given Shape Gs h
      by_call (Some k) e h = by_many k (call_found ds is k e) (nat_lt (length k.call.targets) 9) refl h

      pub one_sound : on_one ds i p q (abstract_call ds (last_call is)) ≡ given Gs → Result
      one_sound h = by_call (abstract_call ds (last_call is)) refl h
