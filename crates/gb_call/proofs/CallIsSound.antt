-- `call` is sound.
use Rattle.std.proofs.Common.{◌≡◌, ◌<◌, ◌*◌, pos, Bool, true, false, if◌then◌else◌, List, [], ◌∷◌, length, map, Option, Some, None, refl, ap, sym, ◌∙◌, subst, nat_lt}
use Rattle.std.proofs.lemmas.Bool.{false≢true, or_parts}
use Rattle.std.specs.List.{AllByRecursion, list_any}
use Rattle.gb_core.specs.declared.refusal.Why.TheVariants.{NotLossless, Shape, SideCondition}
use Rattle.gb_core.specs.declared.value.Value.{Value}
use Rattle.gb_core.specs.declared.var.Var.{Var}
use Rattle.gb_core.specs.declared.var.Var.TheVariants as var
use Rattle.gb_dist.specs.WeightedList.{WeightedList, Every, bind, bit, dmap}
use Rattle.gb_dist.proofs.Entries.{Every-bind, Every-dmap, Every-weaken}
use Rattle.gb_dist.proofs.Masses.{mass-dmap}
use Rattle.gb_terms.specs.declared.decl.Proc.{Proc}
use Rattle.gb_terms.specs.declared.decl.TypedName.{TypedName}
use Rattle.gb_terms.specs.declared.op.Rel.{Rel}
use Rattle.gb_terms.specs.declared.op.Rel.TheVariants.{AtLeast, AtMost, Equal}
use Rattle.gb_terms.specs.declared.op.Side.TheVariants as side
use Rattle.gb_terms.specs.declared.term.Instr.{Instr}
use Rattle.gb_terms.specs.declared.term.Term.{Term}
use Rattle.gb_terms.specs.Equal.{var_eq}
use Rattle.gb_walk.specs.Clash.{Exclusions, variables_read}
use Rattle.gb_meaning.specs.Commands.{statements}
use Rattle.gb_meaning.specs.Fractions.{Fraction}
use Rattle.gb_meaning.specs.Judgments.{Judge, IsFair, IsSoundIfThere, IsTrueUnder, chance, compares, den, from_frame, outcome_denominator, speaking}
use Rattle.gb_meaning.specs.Meanings.{fraction_in}
use Rattle.gb_meaning.specs.Memory.{Memory, result_in, result_name}
use Rattle.gb_meaning.specs.Program.{Routine}
use Rattle.gb_meaning.specs.Runs.{outcomes, returned, routine_denominator, valued}
use Rattle.gb_meaning.specs.Setting.{Setting}
use Rattle.gb_meaning.specs.Sound.{IsSound, IsSoundRoutine}
use Rattle.gb_meaning.specs.State.{State, at}
use Rattle.gb_meaning.specs.Terms.{val}
use Rattle.gb_meaning.specs.Values.{fit}
use Rattle.gb_meaning.proofs.Runs.{routine_positive, run_positive}
use Rattle.gb_meaning.proofs.Totals.{run_bounded}
use Rattle.gb_laws.specs.Finite.{IsFinite}
use Rattle.gb_laws.specs.Programs.{Take}
use Rattle.gb_meaning.specs.Declared.{declared}
use Rattle.gb_goal.specs.declared.sequent.Sequent.{Sequent}
use Rattle.gb_goal.specs.Answers.Answer.{given}
use Rattle.gb_goal.specs.Goal.{Goal}
use Rattle.gb_goal.specs.Goal.Code.{body, procedure}
use Rattle.gb_goal.specs.Goal.Goal.{hoare, phoare, equiv, ambient}
use Rattle.gb_goal.specs.Rows.{refusing}
use Rattle.gb_goal.specs.Scope.{Declarations, procedure_of}
use Rattle.gb_steps.specs.declared.step.Acts.{Acts}
use Rattle.gb_steps.specs.declared.step.Acts.TheVariants as on
use Rattle.gb_steps.specs.declared.step.Contract.{Contract}
use Rattle.gb_typing.specs.Context.{Context, erased, of_program, with_own}
use Rattle.gb_typing.specs.Context as context
use Rattle.gb_typing.specs.Fits.{IsSettingOf, IsStateOf}
use Rattle.gb_typing.specs.Programs.{IsBody, IsCall, IsProcedure, type_of_procedure}
use Rattle.gb_typing.specs.Scopes.{context_of, IsTypedScope}
use Rattle.gb_typing.specs.Sequents.{of_sequent, IsTypedSequent}
use Rattle.gb_typing.specs.Typing.{before, after, IsForm, IsThere, IsTyped}
use Rattle.gb_typing.proofs.Drawing.{body_sound}
use Rattle.gb_typing.proofs.Sound.{procedures_sound}
use Rattle.gb_typing.proofs.Located.{IsTypedThere}
use Rattle.gb_typing.specs.Forms.{IsKeptOff}
use Rattle.gb_typing.specs.Meaning.{Stands, denominator, run}
use Rattle.gb_typing.specs.Rules.{IsSettingOver, IsSoundIn, IsSoundRuleIn, ImpliesIn, outermost}
use Rattle.gb_typing.specs.Goals.{IsGoalOver, IsTypedGoal}
use Rattle.gb_typing.proofs.Forms.{and_typed, and_use}
use Rattle.gb_typing.proofs.Given.{refused_given, sound_given_in}
use Rattle.gb_typing.proofs.Runs.{denominator_append, run_append}
use Rattle.gb_typing.proofs.Spared.{Clear}
use Rattle.gb_prog.specs.Calls.{called_from}
use Rattle.gb_prog.specs.Writes.{DifferIn, TypedVariable, AreIn, variables}
use Rattle.gb_call.specs.Call.{Callee, before_call, by_globals, chances_by_globals, chances_of_callee, in_front, call_goals, call_row, callee as callee_if, callee_of, left_of, of_callee, on_programs, outcome as outcome_of, unless_clash, IsContract, IsTypedContract}
use Rattle.gb_prog.specs.Compared.{compared, zero}
use Rattle.gb_full.specs.Loss.{Loss, nowhere, sampled, called as lost_in_call, first_loss}
use Rattle.gb_prog.proofs.Bound.{bound_value}
use Rattle.gb_prog.proofs.Chances.{after_full, after_less}
use Rattle.gb_prog.proofs.Comparing.{number_made, real_made, compared_typed, number_is, compared_is}
use Rattle.gb_full.proofs.Full.{total_full}
use Rattle.gb_prog.proofs.Likely.{FollowsAt}
use Rattle.gb_full.specs.Lossless.{of_rest}
use Rattle.gb_mods.specs.Exclusions.{exclusions}
use Rattle.gb_mods.specs.Written.{written}
use Rattle.gb_prog.proofs.KeptOff.{kept_off}
use Rattle.gb_call.specs.LastCall.{LastCall, last_call}
use Rattle.gb_call.specs.Outcomes.{Outcome, after_call, after_where, clash_after, is_among, is_read, of_arguments, reads_result}
use Rattle.gb_call.specs.Written.{with_types}
use Rattle.gb_call.proofs.After.{with_result_typed, no_result_typed, is_res}
use Rattle.gb_call.proofs.AfterMeans.{with_result_means, no_result_means, reads_with_result, reads_without_result}
use Rattle.gb_call.proofs.Arguments.{arguments_typed, arguments_meaning}
use Rattle.gb_call.proofs.Callees.{IsResult, callee_routine, every_both, alone_local, few, there, typed_with}
use Rattle.gb_call.proofs.Callees as callees
use Rattle.gb_call.proofs.Conditions.{nothing_least, after_spared, said_spared, globals_alone, left_alone, said_alone, said_read, with_result, without_result, no_result}
use Rattle.gb_call.proofs.LastCalls.{IsCalled}
use Rattle.gb_call.proofs.Likely.{event_follows_on}

module _ (ds : Declarations) (scoped : IsTypedScope (declared ds)) (t : Sequent) (typed : IsTypedSequent (context_of (declared ds)) t) (s : Contract) where
  abbrev c : Context
  c = of_sequent (context_of (declared ds)) t typed.frames

  module _ (outer : c ≡ outermost c) (ls : List TypedName) (is : List Instr) (q : Term) (typed_body : IsBody c ls is) (typed_end : IsForm (with_own c (Some ls)) q) (k : LastCall) (last : last_call is ≡ Some k) (y : IsContract c s (Some k))
      (a : Proc) (e : procedure_of ds k.procedure ≡ Some a) (U : List Var) (u : written ds k.procedure ≡ Some U) (many : length k.targets < 9) (clear : clash_after (exclusions ds) side.Own k.targets U s.post q ≡ None)
      (W : List TypedVariable) (z : with_types ds (left_of side.Own (record { call = k; declared = a; written = U }) s q) ≡ Some W) where
    abbrev callee : Callee
    callee = record { call = k; declared = a; written = U }

    abbrev target : IsTypedThere c k.procedure a
    target = there ds scoped t typed k.procedure a e

    abbrev procedure_typed : IsProcedure c a
    procedure_typed = callees.procedure_typed ds scoped t typed outer ls is typed_body k last a e U u

    abbrev ends : IsCalled c ls is k
    ends = callees.ends ds scoped t typed outer ls is typed_body k last a e U u

    abbrev call_typed : IsCall c ls k.targets (Some (type_of_procedure a)) k.arguments
    call_typed = callees.call_typed ds scoped t typed outer ls is typed_body k last a e U u

    pre_form : IsForm (with_own c (Some a.params)) s.pre
    pre_form = let x = target in subst (λ o. IsForm (with_own c (before o)) s.pre) x.type y.0

    abbrev result_frame : List TypedName
    result_frame = record { name = result_name; ty = a.result } ∷ []

    post_form : IsForm (with_own c (Some result_frame)) s.post
    post_form = let x = target in subst (λ o. IsForm (with_own c (after o)) s.post) x.type y.1

    abbrev finite_result : IsFinite a.result
    finite_result = callees.finite_result ds scoped t typed outer ls is typed_body k last a e U u

    are : (variables W ≡ left_of side.Own callee s q) × AreIn (outermost c) (Some []) W
    are = typed_with ds scoped t typed (left_of side.Own callee s q) W z

    -- the same in the context without binders
    said_form : IsForm (with_own (outermost c) (Some result_frame)) s.post
    said_form = subst (λ d. IsForm (with_own d (Some result_frame)) s.post) outer post_form

    end_form : IsForm (with_own (outermost c) (Some ls)) q
    end_form = subst (λ d. IsForm (with_own d (Some ls)) q) outer typed_end

    abbrev takes : Take (erased (outermost c)) ls k.targets a.result
    takes = callees.takes ds scoped t typed outer ls is typed_body k last a e U u

    abbrev o : Outcome
    o = outcome_of side.Own callee W

    abbrev occurs : Bool
    occurs = reads_result o s.post q

    -- where the result doesn't occur, neither form reads it
    result_unread : occurs ≡ false → (is_read side.Own s.post (var.Local result_name) ≡ false) × (list_any (is_read side.Own q) k.targets ≡ false)
    result_unread h = or_parts (is_read side.Own s.post (var.Local result_name)) (list_any (is_read side.Own q) k.targets) h

    after_form : (rel : Rel) (b : Bool) → occurs ≡ b → IsForm (with_own (outermost c) (Some ls)) (after_where rel b o s.post q)
    after_form rel true h = with_result_typed c ls a.result W are.1 finite_result rel s.post q said_form end_form k.targets takes many
    after_form rel false h = no_result_typed c ls a.result W are.1 rel s.post q said_form (unread_clear (variables_read side.Own s.post) (result_unread h).0) end_form
      where
        unread_clear : (xs : List Var) → is_among xs (var.Local result_name) ≡ false → Clear side.Own tt (is_res c ls a.result W are.1) xs
        unread_clear [] h = tt
        unread_clear (x ∷ xs) h = let f = or_parts (var_eq (var.Local result_name) x) (is_among xs (var.Local result_name)) h in (f.0, unread_clear xs f.1)

    before_form : (rel : Rel) → IsForm (with_own c (Some ls)) (before_call rel side.Own callee W s q)
    before_form rel =
        and_typed (with_own c (Some ls)) _ _ (arguments_typed c outer ls a.params k.arguments s.pre call_typed.0 pre_form)
        (subst (λ d. IsForm (with_own d (Some ls)) (after_call rel o s.post q)) (sym outer) (after_form rel occurs refl))

    procedure_there : IsThere (context.procedure c k.procedure)
    procedure_there = let x = target in subst IsThere (sym x.type) tt

    abbrev ex : Exclusions
    ex = exclusions ds

    -- One outcome of the call.
    module _ (g : Setting) (fits : IsSettingOf c g) (over : IsSettingOver (declared ds) g) (j : Judge) (fair : IsFair g j) (v : State) (fit : IsStateOf c g v) (m n : Memory)
        (has_result : IsResult g a.result n) (differs : DifferIn g.types U m (record { globals = n.globals; frame = m.frame })) where
      fits_there : IsSettingOf (outermost c) g
      fits_there = subst (λ d. IsSettingOf d g) outer fits

      state_there : IsStateOf (outermost c) g v
      state_there = subst (λ d. IsStateOf d g v) outer fit

      off : IsKeptOff ex g
      off = kept_off ds scoped g over

      -- what is to hold after the call stands so to what is said of the outcome
      ends_there : (rel : Rel) (b : Bool) → occurs ≡ b → IsTrueUnder g j (after_where rel b o s.post q) (at v m) → FollowsAt rel (den g j q (at v (returned g k.targets m n))) (den g j s.post (at v n))
      ends_there rel true h x =
          let S = after_spared side.Own tt k.targets U s.post q true ex (nothing_least _ clear) _ end_form.typed (λ f. absurd (false≢true (sym f))) in
          let Z = said_spared side.Own tt k.targets U s.post q true ex (nothing_least _ clear) _ said_form.typed (λ f. absurd (false≢true (sym f))) in
          with_result_means c ls a.result W are.1 g fits_there j fair v state_there m n U differs S.readable (globals_alone side.Own tt k.targets U s.post q true W are.0 g ex off S)
          finite_result k.targets takes many (result_in n) has_result.0 has_result.1 (left_alone side.Own tt k.targets U s.post q true W are.0 g ex off S) (with_result side.Own tt k.targets U s.post q true W are.0 g ex off S)
          rel s.post q said_form Z.readable Z.within ((λ r p f. alone_local g result_name r f), said_alone side.Own tt k.targets U s.post q true W are.0 g ex off Z)
          (reads_with_result c ls a.result W are.1 g fits_there j fair v state_there m n finite_result U differs Z.readable (said_read side.Own tt k.targets U s.post q true W are.0 g ex off Z))
          end_form S.within x
      ends_there rel false h x =
          let S = after_spared side.Own tt k.targets U s.post q false ex (nothing_least _ clear) _ end_form.typed (λ f. (result_unread h).1) in
          let Z = said_spared side.Own tt k.targets U s.post q false ex (nothing_least _ clear) _ said_form.typed (λ f. (result_unread h).0) in
          no_result_means c ls a.result W are.1 g fits_there j fair v state_there m n U differs S.readable (globals_alone side.Own tt k.targets U s.post q false W are.0 g ex off S)
          k.targets (result_in n) (without_result side.Own tt k.targets U s.post q false W are.0 g ex off S refl)
          rel s.post q said_form Z.readable Z.within (said_alone side.Own tt k.targets U s.post q false W are.0 g ex off Z)
          (reads_without_result c ls a.result W are.1 g fits_there j fair v state_there m n finite_result U differs Z.readable (said_read side.Own tt k.targets U s.post q false W are.0 g ex off Z) (no_result side.Own tt k.targets U s.post q false W are.0 g ex off Z refl))
          end_form S.within x

    abbrev routine_in : (g : Setting) → IsSettingOf c g → Routine
    routine_in g fits = callee_routine c g fits a procedure_typed

    abbrev argument_values : Setting → State → Memory → List Value
    argument_values g v n = map (λ e. valued g v e n) k.arguments

    module _ (g : Setting) (fits : IsSettingOf c g) (over : IsSettingOver (declared ds) g) (j : Judge) (fair : IsFair g j) (v : State) (fit : IsStateOf c g v) where
      abbrev is_routine : g.procedure k.procedure ≡ Some (routine_in g fits)
      is_routine = callees.is_routine ds scoped t typed outer ls is typed_body k last a e U u g fits over

      abbrev call_run : (n : Memory) → run g v ((let l = ends in l.last) ∷ []) n ≡ dmap (returned g k.targets n) (outcomes g (routine_in g fits) (argument_values g v n) n.globals)
      call_run n = callees.call_run ds scoped t typed outer ls is typed_body k last a e U u g fits over v n

      abbrev call_denominator : denominator g ((let l = ends in l.last) ∷ []) ≡ routine_denominator g (routine_in g fits)
      call_denominator = callees.call_denominator ds scoped t typed outer ls is typed_body k last a e U u g fits over

      abbrev judged_outcomes : (n : Memory) → from_frame g (g.procedure k.procedure) (called_from (routine_in g fits) (argument_values g v n) n.globals) ≡ outcomes g (routine_in g fits) (argument_values g v n) n.globals
      judged_outcomes n = callees.judged_outcomes ds scoped t typed outer ls is typed_body k last a e U u g fits over v n

      -- its precondition holds of the arguments
      starts : (rel : Rel) (n : Memory) → IsTrueUnder g j (before_call rel side.Own callee W s q) (at v n) → IsTrueUnder g j s.pre (at v (called_from (routine_in g fits) (argument_values g v n) n.globals))
      starts rel n r =
          let parts = and_use g j (of_arguments side.Own a.params k.arguments s.pre) (after_call rel o s.post q) (at v n) r in
          sym (arguments_meaning c outer ls a.params k.arguments g j v n s.pre call_typed.0 fits fair pre_form) ∙ parts.0

      abbrev each_outcome : (n : Memory) → Every (λ o. IsResult g a.result o × DifferIn g.types U n (record { globals = o.globals; frame = n.frame })) (outcomes g (routine_in g fits) (argument_values g v n) n.globals)
      each_outcome n = callees.each_outcome ds scoped t typed outer ls is typed_body k last a e U u g fits over v n

      -- what is to hold after the call stands so to what is said of each outcome
      follows : (rel : Rel) (n : Memory) → IsTrueUnder g j (before_call rel side.Own callee W s q) (at v n) →
          Every (λ o. FollowsAt rel (den g j q (at v (returned g k.targets n o))) (den g j s.post (at v o))) (outcomes g (routine_in g fits) (argument_values g v n) n.globals)
      follows rel n r =
          let parts = and_use g j (of_arguments side.Own a.params k.arguments s.pre) (after_call rel o s.post q) (at v n) r in
          Every-weaken {P = λ o. IsResult g a.result o × DifferIn g.types U n (record { globals = o.globals; frame = n.frame })} (outcomes g (routine_in g fits) (argument_values g v n) n.globals)
          (λ o i. ends_there g fits over j fair v fit n o i.0 i.1 rel occurs refl parts.1) (each_outcome n)

    -- a judgment that it always holds
    module _ (rs : List TypedName) (p : Term) (w : IsGoalOver c ls rs (hoare (body is) p q)) where
      goals_typed : AllByRecursion (IsTypedGoal c) (call_goals callee W s p q)
      goals_typed =
          let l = ends in
          ((ls, rs, (procedure_there, y.0, y.1)), ((ls, rs, (l.rest, w.1, before_form AtLeast)), tt))

      goals_imply : ImpliesIn (declared ds) c (call_goals callee W s p q) (hoare (body is) p q)
      goals_imply g fits over j fair v fit h m x =
          let l = ends in
          subst (λ b. Every (λ n. IsTrueUnder g j q (at v n)) (run g v b m)) (sym l.shape)
          (subst (Every (λ n. IsTrueUnder g j q (at v n))) (sym (run_append g v k.before (l.last ∷ []) m))
          (Every-bind (λ n. IsTrueUnder g j (before_call AtLeast side.Own callee W s q) (at v n)) (λ n. IsTrueUnder g j q (at v n)) (run g v k.before m) (λ n. run g v (l.last ∷ []) n) (h.1.0 m x) (λ n r. after_one n r)))
        where
          -- what the procedure is said to do
          does : (n : Memory) → IsTrueUnder g j (before_call AtLeast side.Own callee W s q) (at v n) → Every (λ o. IsTrueUnder g j s.post (at v o)) (outcomes g (routine_in g fits) (argument_values g v n) n.globals)
          does n r = subst (Every (λ o. IsTrueUnder g j s.post (at v o))) (judged_outcomes g fits over j fair v fit n) (h.0 (called_from (routine_in g fits) (argument_values g v n) n.globals) (starts g fits over j fair v fit AtLeast n r))

          after_one : (n : Memory) → IsTrueUnder g j (before_call AtLeast side.Own callee W s q) (at v n) → Every (λ o. IsTrueUnder g j q (at v o)) (run g v ((let l = ends in l.last) ∷ []) n)
          after_one n r =
              subst (Every (λ o. IsTrueUnder g j q (at v o))) (sym (call_run g fits over j fair v fit n))
              (Every-dmap {P = λ o. FollowsAt AtLeast (den g j q (at v (returned g k.targets n o))) (den g j s.post (at v o)) × IsTrueUnder g j s.post (at v o)} (λ o. IsTrueUnder g j q (at v o)) (returned g k.targets n)
              (outcomes g (routine_in g fits) (argument_values g v n) n.globals) (λ o i. i.0 i.1)
              (every_both (λ o. FollowsAt AtLeast (den g j q (at v (returned g k.targets n o))) (den g j s.post (at v o))) (λ o. IsTrueUnder g j s.post (at v o))
              (outcomes g (routine_in g fits) (argument_values g v n) n.globals) (follows g fits over j fair v fit AtLeast n r) (does n r)))

      abbrev AreSound : List Goal → Type 0
      AreSound Gs = AllByRecursion (IsTypedGoal c) Gs × ImpliesIn (declared ds) c Gs (hoare (body is) p q)

      given_sound : (Gs : List Goal) → given (call_goals callee W s p q) ≡ given Gs → AreSound Gs
      given_sound Gs i = sound_given_in (declared ds) c (hoare (body is) p q) (call_goals callee W s p q) Gs (goals_typed, goals_imply) i

    -- a judgment with a probability
    module _ (rs : List TypedName) (l : Rel) (p b : Term) (w : IsGoalOver c ls rs (phoare (body is) l p q b)) where
      abbrev goal : Goal
      goal = phoare (body is) l p q b

      abbrev first_goal : Goal
      first_goal = phoare (procedure k.procedure) l s.pre s.post b

      abbrev second_goal : Goal
      second_goal = hoare (body k.before) p (before_call l side.Own callee W s q)

      abbrev least_goal : Goal
      least_goal = ambient (compared AtMost zero b)

      first_typed : IsTypedGoal c first_goal
      first_typed = (ls, rs, (procedure_there, y.0, y.1, w.3, w.4))

      second_typed : IsTypedGoal c second_goal
      second_typed = let x = ends in (ls, rs, (x.rest, w.1, before_form l))

      bound_typed : IsTyped c b
      bound_typed = subst (λ d. IsTyped d b) (ap (λ d. with_own d None) outer ∙ sym outer) w.3

      least_typed : IsTypedGoal c least_goal
      least_typed = (ls, rs, compared_typed c AtMost zero b (number_made c (pos 0)) (real_made c b bound_typed w.4))

      module _ (g : Setting) (fits : IsSettingOf c g) (over : IsSettingOver (declared ds) g) (j : Judge) (fair : IsFair g j) (v : State) (fit : IsStateOf c g v)
          (first : Stands g j v first_goal) (second : Stands g j v second_goal) (m : Memory) (x : IsTrueUnder g j p (at v m)) where
        abbrev bound : Fraction
        bound = fraction_in (val g (speaking g j) b v)

        abbrev event : Memory → Bool
        event n = den g j q (at v n)

        abbrev R : Routine
        R = routine_in g fits

        abbrev last_one : List Instr
        last_one = (let l = ends in l.last) ∷ []

        routine_sound : IsSoundRoutine g R
        routine_sound = subst (IsSoundIfThere g) (is_routine g fits over j fair v fit) (procedures_sound c g fits k.procedure procedure_there)

        -- wherever the rest ends, the call makes the event as likely as the relation asks
        after_call_is : (n : Memory) → IsTrueUnder g j (before_call l side.Own callee W s q) (at v n) → compares l (chance (run g v last_one n) (denominator g last_one) event) bound ≡ true
        after_call_is n r =
            let D : WeightedList Memory = outcomes g R (argument_values g v n) n.globals in
            let judged : compares l (chance D (routine_denominator g R) (λ o. den g j s.post (at v o))) bound ≡ true =
            subst (λ z. z) (λ i. compares l (chance (judged_outcomes g fits over j fair v fit n i) (outcome_denominator g (is_routine g fits over j fair v fit i)) (λ o. den g j s.post (at v o))) bound ≡ true)
            (first (called_from R (argument_values g v n) n.globals) (starts g fits over j fair v fit l n r)) in
            let followed : compares l (chance D (routine_denominator g R) (λ o. event (returned g k.targets n o))) bound ≡ true =
            event_follows_on D (routine_denominator g R) (routine_positive g R routine_sound) (λ o. event (returned g k.targets n o)) (λ o. den g j s.post (at v o)) l (follows g fits over j fair v fit l n r) bound judged in
            subst (λ z. z) (λ i. compares l (chance (sym (call_run g fits over j fair v fit n) i) (sym (call_denominator g fits over j fair v fit) i) event) bound ≡ true)
            (ap (λ u. compares l (pos u, routine_denominator g R) bound) (mass-dmap (returned g k.targets n) D (λ o. bit (event o))) ∙ followed)

        each : Every (λ n. compares l (chance (run g v last_one n) (denominator g last_one) event) bound ≡ true) (run g v k.before m)
        each = Every-weaken {P = λ n. IsTrueUnder g j (before_call l side.Own callee W s q) (at v n)} (run g v k.before m) (λ n r. after_call_is n r) (second m x)

        rest_sound : IsSound g (statements g k.before)
        rest_sound = let z = ends in body_sound c g fits ls k.before (let r = z.rest in r.statements)

        before_positive : 0 < denominator g k.before
        before_positive = run_positive g (statements g k.before) rest_sound

        last_positive : 0 < denominator g last_one
        last_positive = subst (λ n. 0 < n) (sym (call_denominator g fits over j fair v fit)) (routine_positive g R routine_sound)

        whole : compares l (chance (bind (run g v k.before m) (λ n. run g v last_one n)) (denominator g k.before * denominator g last_one) event) bound ≡ true →
            compares l (chance (run g v is m) (denominator g is) event) bound ≡ true
        whole r =
            let z = ends in
            let runs = sym (ap (λ is. run g v is m) z.shape ∙ run_append g v k.before last_one m) in
            let denominators = sym (ap (denominator g) z.shape ∙ denominator_append g k.before last_one) in
            subst (λ z. z) (λ i. compares l (chance (runs i) (denominators i) event) bound ≡ true) r

        where_full : first_loss ds k.before ≡ nowhere → compares l (chance (run g v is m) (denominator g is) event) bound ≡ true
        where_full f =
            let z = ends in
            whole (after_full (run g v k.before m) (λ n. run g v last_one n) event (denominator g k.before) (denominator g last_one) before_positive last_positive (total_full ds scoped t typed g fits over ls k.before z.rest f v m) l bound each)

      full_imply : first_loss ds k.before ≡ nowhere → ImpliesIn (declared ds) c (first_goal ∷ second_goal ∷ []) goal
      full_imply f g fits over j fair v fit h m x = where_full g fits over j fair v fit h.0 h.1.0 m x f

    -- where weight may be lost before the call, and the bound isn't below 0
    module _ (rs : List TypedName) (p b : Term) (w : IsGoalOver c ls rs (phoare (body is) AtMost p q b)) where
      abbrev less_goals : List Goal
      less_goals = first_goal rs AtMost p b w ∷ second_goal rs AtMost p b w ∷ least_goal rs AtMost p b w ∷ []

      less_imply : ImpliesIn (declared ds) c less_goals (phoare (body is) AtMost p q b)
      less_imply g fits over j fair v fit h m x =
          whole rs AtMost p b w g fits over j fair v fit h.0 h.1.0 m x
          (after_less (run g v k.before m) (λ n. run g v (last_one rs AtMost p b w g fits over j fair v fit h.0 h.1.0 m x) n) (λ n. den g j q (at v n)) (denominator g k.before)
          (denominator g (last_one rs AtMost p b w g fits over j fair v fit h.0 h.1.0 m x)) (before_positive rs AtMost p b w g fits over j fair v fit h.0 h.1.0 m x)
          (last_positive rs AtMost p b w g fits over j fair v fit h.0 h.1.0 m x)
          (run_bounded g v (statements g k.before) (rest_sound rs AtMost p b w g fits over j fair v fit h.0 h.1.0 m x) m) (fraction_in (val g (speaking g j) b v))
          (sym (compared_is g j v AtMost zero b (pos 0, 1) _ (number_is g j v (pos 0)) (bound_value c b w.3 w.4 g fits j fair v fit)) ∙ h.1.1.0)
          (each rs AtMost p b w g fits over j fair v fit h.0 h.1.0 m x))

      less_sound : (Gs : List Goal) → given less_goals ≡ given Gs → AllByRecursion (IsTypedGoal c) Gs × ImpliesIn (declared ds) c Gs (phoare (body is) AtMost p q b)
      less_sound Gs i =
          sound_given_in (declared ds) c (phoare (body is) AtMost p q b) less_goals Gs
          ((first_typed rs AtMost p b w, (second_typed rs AtMost p b w, (least_typed rs AtMost p b w, tt))), less_imply) i

    -- by what is lost before the call
    chances_sound : (rs : List TypedName) (l : Rel) (p b : Term) (w : IsGoalOver c ls rs (phoare (body is) l p q b)) (Gs : List Goal) (u : Loss) → first_loss ds k.before ≡ u →
        in_front (first_goal rs l p b w) (of_rest u l b (second_goal rs l p b w)) ≡ given Gs → AllByRecursion (IsTypedGoal c) Gs × ImpliesIn (declared ds) c Gs (phoare (body is) l p q b)
    chances_sound rs l p b w Gs nowhere f i =
        sound_given_in (declared ds) c (phoare (body is) l p q b) (first_goal rs l p b w ∷ second_goal rs l p b w ∷ []) Gs
        ((first_typed rs l p b w, (second_typed rs l p b w, tt)), full_imply rs l p b w f) i
    chances_sound rs AtMost p b w Gs (sampled x) f i = less_sound rs p b w Gs i
    chances_sound rs AtMost p b w Gs lost_in_call f i = less_sound rs p b w Gs i
    chances_sound rs Equal p b w Gs (sampled x) f i = refused_given (NotLossless x) Gs i
    chances_sound rs Equal p b w Gs lost_in_call f i = refused_given Shape Gs i
    chances_sound rs AtLeast p b w Gs (sampled x) f i = refused_given (NotLossless x) Gs i
    chances_sound rs AtLeast p b w Gs lost_in_call f i = refused_given Shape Gs i

  -- the row, step by step
  module _ (outer : c ≡ outermost c) (ls rs : List TypedName) (is : List Instr) (p q : Term) (w : IsGoalOver c ls rs (hoare (body is) p q)) (Gs : List Goal) where
    abbrev Result : Type 0
    Result = AllByRecursion (IsTypedGoal c) Gs × ImpliesIn (declared ds) c Gs (hoare (body is) p q)

    module _ (k : LastCall) (last : last_call is ≡ Some k) (y : IsContract c s (Some k)) (a : Proc) (e : procedure_of ds k.procedure ≡ Some a) (U : List Var) (u : written ds k.procedure ≡ Some U) where
      abbrev this : Callee
      this = record { call = k; declared = a; written = U }

      by_left : (many : length k.targets < 9) → clash_after (exclusions ds) side.Own k.targets U s.post q ≡ None → (r : Option (List TypedVariable)) → with_types ds (left_of side.Own this s q) ≡ r → by_globals this s p q r ≡ given Gs → Result
      by_left many clear None z i = refused_given Shape Gs i
      by_left many clear (Some W) z i = given_sound outer ls is q w.0 w.2 k last y a e U u many clear W z rs p w Gs i

      by_clash : (many : length k.targets < 9) → (r : Option Var) → clash_after (exclusions ds) side.Own k.targets U s.post q ≡ r → unless_clash r (by_globals this s p q (with_types ds (left_of side.Own this s q))) ≡ given Gs → Result
      by_clash many (Some x) clear i = refused_given (SideCondition x) Gs i
      by_clash many None clear i = by_left many clear (with_types ds (left_of side.Own this s q)) refl i

      by_many : (b : Bool) → nat_lt (length k.targets) 9 ≡ b → (if b then unless_clash (clash_after (exclusions ds) side.Own k.targets U s.post q) (by_globals this s p q (with_types ds (left_of side.Own this s q))) else refusing Shape) ≡ given Gs → Result
      by_many true h i = by_clash (few k.targets h) (clash_after (exclusions ds) side.Own k.targets U s.post q) refl i
      by_many false h i = refused_given Shape Gs i

    by_procedure : (k : LastCall) → last_call is ≡ Some k → IsContract c s (Some k) → (r : Option Proc) → procedure_of ds k.procedure ≡ r → (o : Option (List Var)) → written ds k.procedure ≡ o →
        of_callee ds s p q (callee_if k r o) ≡ given Gs → Result
    by_procedure k last y None e o u i = refused_given Shape Gs i
    by_procedure k last y (Some a) e None u i = refused_given Shape Gs i
    by_procedure k last y (Some a) e (Some U) u i = by_many k last y a e U u (nat_lt (length k.targets) 9) refl i

    by_call : (r : Option LastCall) → last_call is ≡ r → IsContract c s r → of_callee ds s p q (callee_of ds r) ≡ given Gs → Result
    by_call None last y i = refused_given Shape Gs i
    by_call (Some k) last y i = by_procedure k last y (procedure_of ds k.procedure) refl (written ds k.procedure) refl i

  -- the same of a probability
  module _ (outer : c ≡ outermost c) (ls rs : List TypedName) (is : List Instr) (l : Rel) (p q b : Term) (w : IsGoalOver c ls rs (phoare (body is) l p q b)) (Gs : List Goal) where
    abbrev Chances : Type 0
    Chances = AllByRecursion (IsTypedGoal c) Gs × ImpliesIn (declared ds) c Gs (phoare (body is) l p q b)

    module _ (k : LastCall) (last : last_call is ≡ Some k) (y : IsContract c s (Some k)) (a : Proc) (e : procedure_of ds k.procedure ≡ Some a) (U : List Var) (u : written ds k.procedure ≡ Some U) where
      abbrev caller : Callee
      caller = record { call = k; declared = a; written = U }

      chances_left : (many : length k.targets < 9) → clash_after (exclusions ds) side.Own k.targets U s.post q ≡ None → (r : Option (List TypedVariable)) → with_types ds (left_of side.Own caller s q) ≡ r →
          chances_by_globals ds caller s l p q b r ≡ given Gs → Chances
      chances_left many clear None z i = refused_given Shape Gs i
      chances_left many clear (Some W) z i = chances_sound outer ls is q w.0 w.2 k last y a e U u many clear W z rs l p b w Gs (first_loss ds k.before) refl i

      chances_clash : (many : length k.targets < 9) → (r : Option Var) → clash_after (exclusions ds) side.Own k.targets U s.post q ≡ r →
          unless_clash r (chances_by_globals ds caller s l p q b (with_types ds (left_of side.Own caller s q))) ≡ given Gs → Chances
      chances_clash many (Some x) clear i = refused_given (SideCondition x) Gs i
      chances_clash many None clear i = chances_left many clear (with_types ds (left_of side.Own caller s q)) refl i

      chances_many : (f : Bool) → nat_lt (length k.targets) 9 ≡ f →
          (if f then unless_clash (clash_after (exclusions ds) side.Own k.targets U s.post q) (chances_by_globals ds caller s l p q b (with_types ds (left_of side.Own caller s q))) else refusing Shape) ≡ given Gs → Chances
      chances_many true h i = chances_clash (few k.targets h) (clash_after (exclusions ds) side.Own k.targets U s.post q) refl i
      chances_many false h i = refused_given Shape Gs i

    chances_procedure : (k : LastCall) → last_call is ≡ Some k → IsContract c s (Some k) → (r : Option Proc) → procedure_of ds k.procedure ≡ r → (o : Option (List Var)) → written ds k.procedure ≡ o →
        chances_of_callee ds s l p q b (callee_if k r o) ≡ given Gs → Chances
    chances_procedure k last y None e o u i = refused_given Shape Gs i
    chances_procedure k last y (Some a) e None u i = refused_given Shape Gs i
    chances_procedure k last y (Some a) e (Some U) u i = chances_many k last y a e U u (nat_lt (length k.targets) 9) refl i

    chances_call : (r : Option LastCall) → last_call is ≡ r → IsContract c s r → chances_of_callee ds s l p q b (callee_of ds r) ≡ given Gs → Chances
    chances_call None last y i = refused_given Shape Gs i
    chances_call (Some k) last y i = chances_procedure k last y (procedure_of ds k.procedure) refl (written ds k.procedure) refl i

  on_all : (outer : c ≡ outermost c) (ls rs : List TypedName) (G : Goal) → IsGoalOver c ls rs G → IsTypedContract c s ls rs G → (x : Acts) → IsSoundIn (declared ds) c (on_programs ds s x) G
  on_all outer ls rs G w y on.Left Gs i = refused_given Shape Gs i
  on_all outer ls rs G w y on.Right Gs i = refused_given Shape Gs i
  on_all outer ls rs (hoare (body is) p q) w y on.All Gs i = by_call outer ls rs is p q w Gs (last_call is) refl y i
  on_all outer ls rs (hoare (procedure r) p q) w y on.All Gs i = refused_given Shape Gs i
  on_all outer ls rs (phoare (body is) l p q b) w y on.All Gs i = chances_call outer ls rs is l p q b w Gs (last_call is) refl y i
  on_all outer ls rs (phoare (procedure r) l p q b) w y on.All Gs i = refused_given Shape Gs i
  on_all outer ls rs (equiv a b p q) w y on.All Gs i = refused_given Shape Gs i
  on_all outer ls rs (ambient f) w y on.All Gs i = refused_given Shape Gs i

  pub sound : IsSoundRuleIn (declared ds) c (call_row ds s) (IsTypedContract c s)
  sound outer ls rs G w y Gs i = on_all outer ls rs G w y s.acts Gs i
