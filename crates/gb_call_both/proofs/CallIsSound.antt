-- `call` on two bodies is sound, and so it is on one.
use Rattle.std.proofs.Common.{◌≡◌, ◌<◌, Bool, true, false, ◌&&◌, if◌then◌else◌, List, [], ◌∷◌, ◌++◌, length, Option, Some, None, refl, sym, ◌∙◌, subst, nat_lt}
use Rattle.std.proofs.lemmas.Bool.{and_parts, or_parts}
use Rattle.std.specs.List.{AllByRecursion, list_any}
use Rattle.gb_core.specs.declared.refusal.Why.TheVariants.{Shape, SideCondition}
use Rattle.gb_core.specs.declared.ty.Ty.{Ty}
use Rattle.gb_core.specs.declared.value.Value.{Value}
use Rattle.gb_core.specs.declared.var.Var.{Var}
use Rattle.gb_core.specs.declared.var.Var.TheVariants as var
use Rattle.gb_dist.specs.WeightedList.{WeightedList, On}
use Rattle.gb_dist.specs.Coupling.{Coupling}
use Rattle.gb_dist.proofs.Basic.{coupling_dmap}
use Rattle.gb_dist.proofs.Entries.{On_of_Every}
use Rattle.gb_dist.proofs.Facts.{coupling_facts}
use Rattle.gb_terms.specs.declared.decl.Proc.{Proc}
use Rattle.gb_terms.specs.declared.decl.TypedName.{TypedName}
use Rattle.gb_terms.specs.declared.op.Side.{Side}
use Rattle.gb_terms.specs.declared.op.Side.TheVariants as side
use Rattle.gb_terms.specs.declared.term.Instr.{Instr}
use Rattle.gb_terms.specs.declared.term.Term.{Term}
use Rattle.gb_terms.specs.Equal.{var_eq}
use Rattle.gb_walk.specs.Clash.{variables_read}
use Rattle.gb_meaning.specs.Judgments.{Judge, IsFair, IsTrueUnder, outcome_denominator}
use Rattle.gb_meaning.specs.Memory.{Memory, result_in, result_name}
use Rattle.gb_meaning.specs.Program.{Routine}
use Rattle.gb_meaning.specs.Runs.{outcomes, returned, routine_denominator}
use Rattle.gb_meaning.specs.Setting.{Setting}
use Rattle.gb_meaning.specs.State.{State, between}
use Rattle.gb_meaning.proofs.Runs.{routine_entries, routine_positive}
use Rattle.gb_laws.proofs.Fair.{memory_discrete}
use Rattle.gb_laws.specs.Uses.{Uses, IsWithin}
use Rattle.gb_laws.specs.Written.{IsSide}
use Rattle.gb_laws.specs.Programs.{Take}
use Rattle.gb_meaning.specs.Declared.{declared}
use Rattle.gb_goal.specs.declared.sequent.Sequent.{Sequent}
use Rattle.gb_goal.specs.Answers.{Answer}
use Rattle.gb_goal.specs.Answers.Answer.{given}
use Rattle.gb_goal.specs.Goal.{Goal}
use Rattle.gb_goal.specs.Goal.Code.{body, procedure}
use Rattle.gb_goal.specs.Goal.Goal.{hoare, phoare, equiv, ambient}
use Rattle.gb_goal.specs.Rows.{refusing}
use Rattle.gb_goal.specs.Scope.{Declarations, procedure_of}
use Rattle.gb_steps.specs.declared.step.Acts.{Acts}
use Rattle.gb_steps.specs.declared.step.Acts.TheVariants as on
use Rattle.gb_steps.specs.declared.step.Contract.{Contract}
use Rattle.gb_typing.specs.Context.{Context, erased, reframed, with_sides}
use Rattle.gb_typing.specs.Fits.{IsSettingOf, IsStateOf}
use Rattle.gb_typing.specs.Programs.{IsCall, type_of_procedure}
use Rattle.gb_typing.specs.Puts.{Readable, reading}
use Rattle.gb_typing.specs.Scopes.{context_of, IsTypedScope}
use Rattle.gb_typing.specs.Sequents.{of_sequent, IsTypedSequent}
use Rattle.gb_typing.specs.Typing.{before, after, IsForm}
use Rattle.gb_typing.specs.Goals.{IsGoalOver, IsTypedGoal}
use Rattle.gb_typing.specs.Meaning.{Stands, denominator, run}
use Rattle.gb_typing.specs.Forms.{IsAlone, IsKeptOff}
use Rattle.gb_typing.specs.Rules.{IsSettingOver, IsSoundIn, IsSoundRuleIn, ImpliesIn, outermost}
use Rattle.gb_typing.proofs.Both.{within_both}
use Rattle.gb_typing.proofs.Forms.{and_typed, and_use}
use Rattle.gb_typing.proofs.Given.{refused_given, sound_given_in}
use Rattle.gb_typing.proofs.Spared.{Clear}
use Rattle.gb_prog.specs.AllValues.{in_memory, AreAlone}
use Rattle.gb_prog.specs.Calls.{called_from}
use Rattle.gb_prog.specs.Writes.{DifferIn, TypedVariable, AreIn, variables}
use Rattle.gb_prog.proofs.Couplings.{runs_sequence}
use Rattle.gb_prog.proofs.AssignedForms.{in_both}
use Rattle.gb_call.specs.Call.{Callee, callee as callee_if, callee_of, if_few, left_of, outcome as outcome_of, unless_clash}
use Rattle.gb_mods.specs.Exclusions.{exclusions}
use Rattle.gb_mods.specs.Written.{written}
use Rattle.gb_prog.proofs.KeptOff.{kept_off}
use Rattle.gb_call.specs.LastCall.{LastCall, last_call}
use Rattle.gb_call.specs.Outcomes.{Outcome, clashing_after, is_among, is_read, reads_result}
use Rattle.gb_call.specs.Written.{with_types}
use Rattle.gb_call.proofs.CallIsSound as one
use Rattle.gb_call.proofs.Callees as callees
use Rattle.gb_call.proofs.Callees.{IsResult, alone_local, few, there, typed_with}
use Rattle.gb_call.proofs.Conditions.{IsSpared, nothing_least, after_spared, said_spared, globals_alone, left_alone, said_alone, said_read, unread_after, unread_said, with_result, without_result}
use Rattle.gb_call.proofs.LastCalls.{IsCalled}
use Rattle.gb_call_both.specs.BothOutcomes.{after_both, bound_of_both, of_both_arguments}
use Rattle.gb_call_both.specs.Call.{before_both, both_goals, by_both_globals, call_row, clash_after_both, of_callees, on_two, AreContracts, IsContractOf, IsTypedContract}
use Rattle.gb_call_both.proofs.AfterBoth.{Covers, after_both_means, after_typed, frame_if, globals_among, hidden, moves}
use Rattle.gb_call_both.proofs.Alone.{both_alone, fewer_read, fewer_targets, hidden_clear, results_alone}
use Rattle.gb_call_both.proofs.ArgumentsOfBoth.{arguments_typed, arguments_meaning}
use Rattle.gb_call_both.proofs.NarrowedSides.{sides_typed}
use Rattle.gb_call_both.proofs.OneSideIsSound as side_sound

both_empty : (xs ys : List Var) → xs ++ ys ≡ [] → (xs ≡ []) × (ys ≡ [])
both_empty [] ys e = (refl, e)
both_empty (x ∷ xs) ys e = cc

module _ (ds : Declarations) (scoped : IsTypedScope (declared ds)) (t : Sequent) (typed : IsTypedSequent (context_of (declared ds)) t) (s : Contract) where
  abbrev c : Context
  c = of_sequent (context_of (declared ds)) t typed.frames

  module _ (outer : c ≡ outermost c) (ls rs : List TypedName) (is js : List Instr) (p q : Term) (w : IsGoalOver c ls rs (equiv (body is) (body js) p q))
      (k l : LastCall) (left_last : last_call is ≡ Some k) (right_last : last_call js ≡ Some l) (y : AreContracts c s (Some k) (Some l))
      (a e : Proc) (left_found : procedure_of ds k.procedure ≡ Some a) (right_found : procedure_of ds l.procedure ≡ Some e)
      (T U : List Var) (left_known : written ds k.procedure ≡ Some T) (right_known : written ds l.procedure ≡ Some U) where
    abbrev left_callee : Callee
    left_callee = record { call = k; declared = a; written = T }

    abbrev right_callee : Callee
    right_callee = record { call = l; declared = e; written = U }

    module _ (left_few : length k.targets < 9) (right_few : length l.targets < 9) (clear : clash_after_both (exclusions ds) left_callee right_callee s q ≡ None)
        (W V : List TypedVariable) (left_types : with_types ds (left_of side.Left left_callee s q) ≡ Some W) (right_types : with_types ds (left_of side.Right right_callee s q) ≡ Some V) where
      abbrev left_result : List TypedName
      left_result = record { name = result_name; ty = a.result } ∷ []

      abbrev right_result : List TypedName
      right_result = record { name = result_name; ty = e.result } ∷ []

      pre_form : IsForm (with_sides c (Some a.params) (Some e.params)) s.pre
      pre_form =
          let x = there ds scoped t typed k.procedure a left_found in
          let z = there ds scoped t typed l.procedure e right_found in
          subst (λ u. u) (λ i. IsForm (with_sides c (before (x.type i)) (before (z.type i))) s.pre) y.0

      post_form : IsForm (with_sides c (Some left_result) (Some right_result)) s.post
      post_form =
          let x = there ds scoped t typed k.procedure a left_found in
          let z = there ds scoped t typed l.procedure e right_found in
          subst (λ u. u) (λ i. IsForm (with_sides c (after (x.type i)) (after (z.type i))) s.post) y.1

      said_form : IsForm (reframed (outermost c) None (Some left_result) (Some right_result)) s.post
      said_form = subst (λ d. IsForm (with_sides d (Some left_result) (Some right_result)) s.post) outer post_form

      end_form : IsForm (reframed (outermost c) None (Some ls) (Some rs)) q
      end_form = subst (λ d. IsForm (with_sides d (Some ls) (Some rs)) q) outer w.4

      left_takes : Take (erased (outermost c)) ls k.targets a.result
      left_takes = callees.takes ds scoped t typed outer ls is w.1 k left_last a left_found T left_known

      right_takes : Take (erased (outermost c)) rs l.targets e.result
      right_takes = callees.takes ds scoped t typed outer rs js w.2 l right_last e right_found U right_known

      left_are : (variables W ≡ left_of side.Left left_callee s q) × AreIn (outermost c) (Some []) W
      left_are = typed_with ds scoped t typed (left_of side.Left left_callee s q) W left_types

      right_are : (variables V ≡ left_of side.Right right_callee s q) × AreIn (outermost c) (Some []) V
      right_are = typed_with ds scoped t typed (left_of side.Right right_callee s q) V right_types

      abbrev o : Outcome
      o = outcome_of side.Left left_callee W

      abbrev u : Outcome
      u = outcome_of side.Right right_callee V

      abbrev left_occurs : Bool
      left_occurs = reads_result o s.post q

      abbrev right_occurs : Bool
      right_occurs = reads_result u s.post q

      no_clash : (clashing_after (exclusions ds) side.Left k.targets T s.post q ≡ []) × (clashing_after (exclusions ds) side.Right l.targets U s.post q ≡ [])
      no_clash = both_empty (clashing_after (exclusions ds) side.Left k.targets T s.post q) (clashing_after (exclusions ds) side.Right l.targets U s.post q) (nothing_least _ clear)

      -- where a result doesn't occur, neither form reads it
      left_unread : left_occurs ≡ false → (is_read side.Left s.post (var.Local result_name) ≡ false) × (list_any (is_read side.Left q) k.targets ≡ false)
      left_unread h = or_parts (is_read side.Left s.post (var.Local result_name)) (list_any (is_read side.Left q) k.targets) h

      right_unread : right_occurs ≡ false → (is_read side.Right s.post (var.Local result_name) ≡ false) × (list_any (is_read side.Right q) l.targets ≡ false)
      right_unread h = or_parts (is_read side.Right s.post (var.Local result_name)) (list_any (is_read side.Right q) l.targets) h

      left_hidden : Clear side.Left tt (hidden left_occurs) (variables_read side.Left s.post)
      left_hidden = hidden_clear side.Left tt left_occurs s.post (λ h. (left_unread h).0)

      right_hidden : Clear side.Right tt (hidden right_occurs) (variables_read side.Right s.post)
      right_hidden = hidden_clear side.Right tt right_occurs s.post (λ h. (right_unread h).0)

      said_narrow : IsForm (reframed (outermost c) None (Some (frame_if left_occurs a.result)) (Some (frame_if right_occurs e.result))) s.post
      said_narrow = record {
        typed =
            sides_typed (Some left_result) (Some right_result) (Some (frame_if left_occurs a.result)) (Some (frame_if right_occurs e.result)) (hidden left_occurs) (hidden right_occurs)
            (moves left_occurs a.result) (moves right_occurs e.result) (λ z. tt) (λ z. tt) s.post (outermost c) left_hidden right_hidden said_form.typed;
        truth = said_form.truth;
      }

      after_form : IsForm (reframed (outermost c) None (Some ls) (Some rs)) (after_both o u s.post q)
      after_form =
          after_typed c ls rs a.result e.result W V left_are.1 right_are.1 (callees.finite_result ds scoped t typed outer ls is w.1 k left_last a left_found T left_known)
          (callees.finite_result ds scoped t typed outer rs js w.2 l right_last e right_found U right_known) k.targets l.targets left_takes right_takes left_few right_few (in_memory side.Left W ++ in_memory side.Right V) (globals_among c W V left_are.1 right_are.1)
          s.post q left_occurs right_occurs said_narrow end_form

      abbrev left_call : IsCall c ls k.targets (Some (type_of_procedure a)) k.arguments
      left_call = callees.call_typed ds scoped t typed outer ls is w.1 k left_last a left_found T left_known

      abbrev right_call : IsCall c rs l.targets (Some (type_of_procedure e)) l.arguments
      right_call = callees.call_typed ds scoped t typed outer rs js w.2 l right_last e right_found U right_known

      before_form : IsForm (with_sides c (Some ls) (Some rs)) (before_both left_callee W right_callee V s q)
      before_form =
          and_typed (with_sides c (Some ls) (Some rs)) _ _ (arguments_typed c outer ls rs a.params e.params k.arguments l.arguments s.pre left_call.0 right_call.0 pre_form)
          (subst (λ d. IsForm (with_sides d (Some ls) (Some rs)) (after_both o u s.post q)) (sym outer) after_form)

      abbrev left_ends : IsCalled c ls is k
      left_ends = callees.ends ds scoped t typed outer ls is w.1 k left_last a left_found T left_known

      abbrev right_ends : IsCalled c rs js l
      right_ends = callees.ends ds scoped t typed outer rs js w.2 l right_last e right_found U right_known

      goals_typed : AllByRecursion (IsTypedGoal c) (both_goals left_callee W right_callee V s p q)
      goals_typed =
          let x = left_ends in
          let z = right_ends in (
            (
              ls,
              rs,
              (
                tt,
                callees.procedure_there ds scoped t typed outer ls is w.1 k left_last a left_found T left_known,
                callees.procedure_there ds scoped t typed outer rs js w.2 l right_last e right_found U right_known,
                y.0,
                y.1,
              ),
            ),
            ((ls, rs, (tt, x.rest, z.rest, w.3, before_form)), tt),
          )

      module _ (g : Setting) (fits : IsSettingOf c g) (over : IsSettingOver (declared ds) g) (j : Judge) (fair : IsFair g j) (v : State) (fit : IsStateOf c g v) where
        fits_there : IsSettingOf (outermost c) g
        fits_there = subst (λ d. IsSettingOf d g) outer fits

        state_there : IsStateOf (outermost c) g v
        state_there = subst (λ d. IsStateOf d g v) outer fit

        off : IsKeptOff (exclusions ds) g
        off = kept_off ds scoped g over

        abbrev R : Routine
        R = callees.routine_in ds scoped t typed outer ls is w.1 k left_last a left_found T left_known g fits

        abbrev S : Routine
        S = callees.routine_in ds scoped t typed outer rs js w.2 l right_last e right_found U right_known g fits

        abbrev left_values : Memory → List Value
        left_values x = callees.argument_values ds scoped t typed outer ls is w.1 k left_last a left_found T left_known g v x

        abbrev right_values : Memory → List Value
        right_values x = callees.argument_values ds scoped t typed outer rs js w.2 l right_last e right_found U right_known g v x

        -- the outcomes of the calls
        abbrev D : Memory → WeightedList Memory
        D x = outcomes g R (left_values x) x.globals

        abbrev E : Memory → WeightedList Memory
        E x = outcomes g S (right_values x) x.globals

        abbrev LeftOutcome : Memory → Memory → Type 0
        LeftOutcome m h = IsResult g a.result h × DifferIn g.types T m (record { globals = h.globals; frame = m.frame })

        abbrev RightOutcome : Memory → Memory → Type 0
        RightOutcome m h = IsResult g e.result h × DifferIn g.types U m (record { globals = h.globals; frame = m.frame })

        -- what is said of two outcomes leads to what is to hold after the calls
        module _ (m n h i : Memory) (left_outcome : LeftOutcome m h) (right_outcome : RightOutcome n i) (holds : IsTrueUnder g j (after_both o u s.post q) (between v m n)) (said : IsTrueUnder g j s.post (between v h i)) where
          left_after : IsSpared (exclusions ds) side.Left q (k.targets ++ T) (unread_after side.Left tt k.targets T s.post q left_occurs)
          left_after = after_spared side.Left tt k.targets T s.post q left_occurs (exclusions ds) no_clash.0 _ end_form.typed (λ f. (left_unread f).1)

          right_after : IsSpared (exclusions ds) side.Right q (l.targets ++ U) (unread_after side.Right tt l.targets U s.post q right_occurs)
          right_after = after_spared side.Right tt l.targets U s.post q right_occurs (exclusions ds) no_clash.1 _ end_form.typed (λ f. (right_unread f).1)

          left_said : IsSpared (exclusions ds) side.Left s.post T (unread_said side.Left tt k.targets T s.post q left_occurs)
          left_said = said_spared side.Left tt k.targets T s.post q left_occurs (exclusions ds) no_clash.0 _ said_form.typed (λ f. (left_unread f).0)

          right_said : IsSpared (exclusions ds) side.Right s.post U (unread_said side.Right tt l.targets U s.post q right_occurs)
          right_said = said_spared side.Right tt l.targets U s.post q right_occurs (exclusions ds) no_clash.1 _ said_form.typed (λ f. (right_unread f).0)

          -- the variables that both conditions leave
          abbrev P : Readable
          P r z = let x = left_after in let y = right_after in x.readable r z && y.readable r z

          abbrev Q : Readable
          Q r z = let x = left_said in let y = right_said in x.readable r z && y.readable r z

          left_read : (z : Var) → P side.Left z ≡ true → (let x = left_after in x.readable side.Left z) ≡ true
          left_read z f = (and_parts _ _ f).0

          right_read : (z : Var) → P side.Right z ≡ true → (let x = right_after in x.readable side.Right z) ≡ true
          right_read z f = (and_parts _ _ f).1

          left_said_read : (z : Var) → Q side.Left z ≡ true → (let x = left_said in x.readable side.Left z) ≡ true
          left_said_read z f = (and_parts _ _ f).0

          right_said_read : (z : Var) → Q side.Right z ≡ true → (let x = right_said in x.readable side.Right z) ≡ true
          right_said_read z f = (and_parts _ _ f).1

          end_within : IsWithin (reading P) q
          end_within =
              let x = left_after in
              let z = right_after in
              subst (λ (K : Uses). IsWithin K q) (λ i u. in_both x.readable z.readable u i) (within_both (reading x.readable) (reading z.readable) q x.within z.within)

          said_within : IsWithin (reading Q) s.post
          said_within =
              let x = left_said in
              let z = right_said in
              subst (λ (K : Uses). IsWithin K s.post) (λ i u. in_both x.readable z.readable u i) (within_both (reading x.readable) (reading z.readable) s.post x.within z.within)

          left_globals : AllByRecursion (λ w. IsAlone g w.variable (P side.Left)) W
          left_globals = fewer_read g (P side.Left) _ left_read W (globals_alone side.Left tt k.targets T s.post q left_occurs W left_are.0 g (exclusions ds) off left_after)

          right_globals : AllByRecursion (λ w. IsAlone g w.variable (P side.Right)) V
          right_globals = fewer_read g (P side.Right) _ right_read V (globals_alone side.Right tt l.targets U s.post q right_occurs V right_are.0 g (exclusions ds) off right_after)

          left_targets : AllByRecursion (λ x. IsAlone g x (P side.Left)) k.targets
          left_targets = fewer_targets g (P side.Left) _ left_read k.targets (left_alone side.Left tt k.targets T s.post q left_occurs W left_are.0 g (exclusions ds) off left_after)

          right_targets : AllByRecursion (λ x. IsAlone g x (P side.Right)) l.targets
          right_targets = fewer_targets g (P side.Right) _ right_read l.targets (left_alone side.Right tt l.targets U s.post q right_occurs V right_are.0 g (exclusions ds) off right_after)

          left_said_globals : AllByRecursion (λ w. IsAlone g w.variable (Q side.Left)) W
          left_said_globals = fewer_read g (Q side.Left) _ left_said_read W (said_alone side.Left tt k.targets T s.post q left_occurs W left_are.0 g (exclusions ds) off left_said)

          right_said_globals : AllByRecursion (λ w. IsAlone g w.variable (Q side.Right)) V
          right_said_globals = fewer_read g (Q side.Right) _ right_said_read V (said_alone side.Right tt l.targets U s.post q right_occurs V right_are.0 g (exclusions ds) off right_said)

          ends : IsTrueUnder g j q (between v (returned g k.targets m h) (returned g l.targets n i))
          ends =
              after_both_means c ls rs a.result e.result W V left_are.1 right_are.1 (callees.finite_result ds scoped t typed outer ls is w.1 k left_last a left_found T left_known)
              (callees.finite_result ds scoped t typed outer rs js w.2 l right_last e right_found U right_known) k.targets l.targets left_takes right_takes left_few right_few (in_memory side.Left W ++ in_memory side.Right V) (globals_among c W V left_are.1 right_are.1)
              s.post q left_occurs right_occurs said_narrow end_form
              g fits_there j fair v state_there m n h i T U left_outcome.1 right_outcome.1 (result_in h) (result_in i) left_outcome.0.0 right_outcome.0.0 left_outcome.0.1 right_outcome.0.1
              Q said_within (results_alone g Q left_occurs right_occurs k.targets l.targets a.result e.result W V (in_memory side.Left W ++ in_memory side.Right V) (both_alone g Q W V left_said_globals right_said_globals))
              (λ z f. said_read side.Left tt k.targets T s.post q left_occurs W left_are.0 g (exclusions ds) off left_said z (left_said_read z f))
              (λ z f. said_read side.Right tt l.targets U s.post q right_occurs V right_are.0 g (exclusions ds) off right_said z (right_said_read z f))
              left_said_globals right_said_globals
              P end_within left_globals right_globals left_targets right_targets (both_alone g P W V left_globals right_globals)
              (left_covers left_occurs refl) (right_covers right_occurs refl) holds said
            where
              left_covers : (b : Bool) → left_occurs ≡ b → Covers g b (P side.Left) k.targets T W
              left_covers true f = λ z x. with_result side.Left tt k.targets T s.post q left_occurs W left_are.0 g (exclusions ds) off left_after z (left_read z x)
              left_covers false f = λ z x. without_result side.Left tt k.targets T s.post q left_occurs W left_are.0 g (exclusions ds) off left_after f z (left_read z x)

              right_covers : (b : Bool) → right_occurs ≡ b → Covers g b (P side.Right) l.targets U V
              right_covers true f = λ z x. with_result side.Right tt l.targets U s.post q right_occurs V right_are.0 g (exclusions ds) off right_after z (right_read z x)
              right_covers false f = λ z x. without_result side.Right tt l.targets U s.post q right_occurs V right_are.0 g (exclusions ds) off right_after f z (right_read z x)

        -- the procedures do what is said of them, from the arguments
        module _ (does : Stands g j v (equiv (procedure k.procedure) (procedure l.procedure) s.pre s.post)) (m n : Memory) (holds : IsTrueUnder g j (before_both left_callee W right_callee V s q) (between v m n)) where
          parts : IsTrueUnder g j (of_both_arguments a.params k.arguments e.params l.arguments s.pre) (between v m n) × IsTrueUnder g j (after_both o u s.post q) (between v m n)
          parts = let z = and_use g j (of_both_arguments a.params k.arguments e.params l.arguments s.pre) (after_both o u s.post q) (between v m n) holds in (z.0, z.1)

          coupled : Coupling (λ h i. IsTrueUnder g j s.post (between v h i)) (D m) (routine_denominator g R) (E n) (routine_denominator g S)
          coupled =
              subst (λ z. z) (λ x. Coupling (λ h i. IsTrueUnder g j s.post (between v h i))
              (callees.judged_outcomes ds scoped t typed outer ls is w.1 k left_last a left_found T left_known g fits over v m x)
              (outcome_denominator g (callees.is_routine ds scoped t typed outer ls is w.1 k left_last a left_found T left_known g fits over x))
              (callees.judged_outcomes ds scoped t typed outer rs js w.2 l right_last e right_found U right_known g fits over v n x)
              (outcome_denominator g (callees.is_routine ds scoped t typed outer rs js w.2 l right_last e right_found U right_known g fits over x)))
              (does (called_from R (left_values m) m.globals) (called_from S (right_values n) n.globals)
              (sym (arguments_meaning c outer ls rs a.params e.params k.arguments l.arguments g j v m n s.pre left_call.0 right_call.0 fits fair pre_form) ∙ parts.0))

          left_sound : On (LeftOutcome m) (D m)
          left_sound =
              On_of_Every (LeftOutcome m) (D m)
              (routine_entries g R (callees.routine_sound ds scoped t typed outer ls is w.1 k left_last a left_found T left_known g fits over) (left_values m) m.globals)
              (callees.each_outcome ds scoped t typed outer ls is w.1 k left_last a left_found T left_known g fits over v m)

          right_sound : On (RightOutcome n) (E n)
          right_sound =
              On_of_Every (RightOutcome n) (E n)
              (routine_entries g S (callees.routine_sound ds scoped t typed outer rs js w.2 l right_last e right_found U right_known g fits over) (right_values n) n.globals)
              (callees.each_outcome ds scoped t typed outer rs js w.2 l right_last e right_found U right_known g fits over v n)

          with_facts : Coupling (λ h i. IsTrueUnder g j s.post (between v h i) × LeftOutcome m h × RightOutcome n i) (D m) (routine_denominator g R) (E n) (routine_denominator g S)
          with_facts =
              coupling_facts memory_discrete memory_discrete {Q = λ h i. IsTrueUnder g j s.post (between v h i)} {l1 = D m} {k1 = routine_denominator g R} {l2 = E n} {k2 = routine_denominator g S} (LeftOutcome m) (RightOutcome n)
              (routine_positive g R (callees.routine_sound ds scoped t typed outer ls is w.1 k left_last a left_found T left_known g fits over))
              (routine_positive g S (callees.routine_sound ds scoped t typed outer rs js w.2 l right_last e right_found U right_known g fits over)) left_sound right_sound coupled

          -- so after the calls there is a coupling
          returns : Coupling (λ x z. IsTrueUnder g j q (between v x z)) (run g v ((let x = left_ends in x.last) ∷ []) m) (denominator g ((let x = left_ends in x.last) ∷ []))
              (run g v ((let x = right_ends in x.last) ∷ []) n) (denominator g ((let x = right_ends in x.last) ∷ []))
          returns =
              subst (λ z. z) (λ x. Coupling (λ x z. IsTrueUnder g j q (between v x z))
              (sym (callees.call_run ds scoped t typed outer ls is w.1 k left_last a left_found T left_known g fits over v m) x)
              (sym (callees.call_denominator ds scoped t typed outer ls is w.1 k left_last a left_found T left_known g fits over) x)
              (sym (callees.call_run ds scoped t typed outer rs js w.2 l right_last e right_found U right_known g fits over v n) x)
              (sym (callees.call_denominator ds scoped t typed outer rs js w.2 l right_last e right_found U right_known g fits over) x))
              (coupling_dmap {Q = λ h i. IsTrueUnder g j s.post (between v h i) × LeftOutcome m h × RightOutcome n i} (λ x z. IsTrueUnder g j q (between v x z)) (returned g k.targets m) (returned g l.targets n)
              (λ h i f. ends m n h i f.1 f.2 parts.1 f.0) with_facts)

      goals_imply : ImpliesIn (declared ds) c (both_goals left_callee W right_callee V s p q) (equiv (body is) (body js) p q)
      goals_imply g fits over j fair v fit h m n x =
          let f = left_ends in
          let z = right_ends in
          subst (λ b. b) (λ i. Coupling (λ x z. IsTrueUnder g j q (between v x z)) (run g v (sym f.shape i) m) (denominator g (sym f.shape i)) (run g v (sym z.shape i) n) (denominator g (sym z.shape i)))
          (runs_sequence g v k.before l.before (f.last ∷ []) (z.last ∷ []) (λ x z. IsTrueUnder g j (before_both left_callee W right_callee V s q) (between v x z)) (λ x z. IsTrueUnder g j q (between v x z)) m n
          (h.1.0 m n x) (λ x z r. returns g fits over j fair v fit h.0 x z r))

    -- the row, step by step
    module _ (Gs : List Goal) where
      abbrev Result : Type 0
      Result = AllByRecursion (IsTypedGoal c) Gs × ImpliesIn (declared ds) c Gs (equiv (body is) (body js) p q)

      by_left : (left_few : length k.targets < 9) → (right_few : length l.targets < 9) → clash_after_both (exclusions ds) left_callee right_callee s q ≡ None →
          (f : Option (List TypedVariable)) → with_types ds (left_of side.Left left_callee s q) ≡ f → (r : Option (List TypedVariable)) → with_types ds (left_of side.Right right_callee s q) ≡ r →
          by_both_globals left_callee right_callee s p q f r ≡ given Gs → Result
      by_left x z clear None f r h i = refused_given Shape Gs i
      by_left x z clear (Some W) f None h i = refused_given Shape Gs i
      by_left x z clear (Some W) f (Some V) h i =
          sound_given_in (declared ds) c (equiv (body is) (body js) p q) (both_goals left_callee W right_callee V s p q) Gs (goals_typed x z clear W V f h, goals_imply x z clear W V f h) i

      abbrev behind : Answer (List Goal)
      behind = by_both_globals left_callee right_callee s p q (with_types ds (left_of side.Left left_callee s q)) (with_types ds (left_of side.Right right_callee s q))

      by_clash : (left_few : length k.targets < 9) → (right_few : length l.targets < 9) → (r : Option Var) → clash_after_both (exclusions ds) left_callee right_callee s q ≡ r → unless_clash r behind ≡ given Gs → Result
      by_clash x z (Some v) clear i = refused_given (SideCondition v) Gs i
      by_clash x z None clear i = by_left x z clear (with_types ds (left_of side.Left left_callee s q)) refl (with_types ds (left_of side.Right right_callee s q)) refl i

      by_many : (b : Bool) → nat_lt (length k.targets) 9 ≡ b → (d : Bool) → nat_lt (length l.targets) 9 ≡ d →
          (if b then (if d then unless_clash (clash_after_both (exclusions ds) left_callee right_callee s q) behind else refusing Shape) else refusing Shape) ≡ given Gs → Result
      by_many true x true z i = by_clash (few k.targets x) (few l.targets z) (clash_after_both (exclusions ds) left_callee right_callee s q) refl i
      by_many true x false z i = refused_given Shape Gs i
      by_many false x d z i = refused_given Shape Gs i

      by_callees_sound : if_few k.targets (if_few l.targets (unless_clash (clash_after_both (exclusions ds) left_callee right_callee s q) behind)) ≡ given Gs → Result
      by_callees_sound i = by_many (nat_lt (length k.targets) 9) refl (nat_lt (length l.targets) 9) refl i

  module _ (outer : c ≡ outermost c) (ls rs : List TypedName) (is js : List Instr) (p q : Term) (w : IsGoalOver c ls rs (equiv (body is) (body js) p q)) (Gs : List Goal) where
    abbrev Both : Type 0
    Both = AllByRecursion (IsTypedGoal c) Gs × ImpliesIn (declared ds) c Gs (equiv (body is) (body js) p q)

    by_procedures : (k l : LastCall) → last_call is ≡ Some k → last_call js ≡ Some l → AreContracts c s (Some k) (Some l) →
        (f : Option Proc) → procedure_of ds k.procedure ≡ f → (r : Option (List Var)) → written ds k.procedure ≡ r →
        (h : Option Proc) → procedure_of ds l.procedure ≡ h → (o : Option (List Var)) → written ds l.procedure ≡ o →
        of_callees ds s p q (callee_if k f r) (callee_if l h o) ≡ given Gs → Both
    by_procedures k l x z y None f r g h i o u v = refused_given Shape Gs v
    by_procedures k l x z y (Some a) f None g h i o u v = refused_given Shape Gs v
    by_procedures k l x z y (Some a) f (Some T) g None i o u v = refused_given Shape Gs v
    by_procedures k l x z y (Some a) f (Some T) g (Some e) i None u v = refused_given Shape Gs v
    by_procedures k l x z y (Some a) f (Some T) g (Some e) i (Some U) u v = by_callees_sound outer ls rs is js p q w k l x z y a e f i T U g u Gs v

    by_calls : (f : Option LastCall) → last_call is ≡ f → (r : Option LastCall) → last_call js ≡ r → AreContracts c s f r → of_callees ds s p q (callee_of ds f) (callee_of ds r) ≡ given Gs → Both
    by_calls None f r h y i = refused_given Shape Gs i
    by_calls (Some k) f None h y i = none_behind (callee_of ds (Some k)) i
      where
        none_behind : (m : Option Callee) → of_callees ds s p q m None ≡ given Gs → Both
        none_behind None i = refused_given Shape Gs i
        none_behind (Some m) i = refused_given Shape Gs i
    by_calls (Some k) f (Some l) h y i =
        by_procedures k l f h y (procedure_of ds k.procedure) refl (written ds k.procedure) refl (procedure_of ds l.procedure) refl (written ds l.procedure) refl i

  on_all : (outer : c ≡ outermost c) (ls rs : List TypedName) (G : Goal) → IsGoalOver c ls rs G → IsTypedContract c s ls rs G → IsSoundIn (declared ds) c (call_row ds s) G
  on_all outer ls rs (equiv (body is) (body js) p q) w y Gs i = by_acts s.acts y i
    where
      by_acts : (x : Acts) → IsContractOf c s x (last_call is) (last_call js) → on_two ds s x is js p q ≡ given Gs → Both outer ls rs is js p q w Gs
      by_acts on.All y i = by_calls outer ls rs is js p q w Gs (last_call is) refl (last_call js) refl y i
      by_acts on.Left y i = side_sound.left_sound ds scoped t typed s outer ls rs is js p q w None tt y Gs i
      by_acts on.Right y i = side_sound.right_sound ds scoped t typed s outer ls rs is js p q w None tt y Gs i
  on_all outer ls rs (equiv (body is) (procedure r) p q) w y Gs i = one.sound ds scoped t typed s outer ls rs (equiv (body is) (procedure r) p q) w y Gs i
  on_all outer ls rs (equiv (procedure r) d p q) w y Gs i = one.sound ds scoped t typed s outer ls rs (equiv (procedure r) d p q) w y Gs i
  on_all outer ls rs (hoare d p q) w y Gs i = one.sound ds scoped t typed s outer ls rs (hoare d p q) w y Gs i
  on_all outer ls rs (phoare d r p q b) w y Gs i = one.sound ds scoped t typed s outer ls rs (phoare d r p q b) w y Gs i
  on_all outer ls rs (ambient f) w y Gs i = one.sound ds scoped t typed s outer ls rs (ambient f) w y Gs i

  pub sound : IsSoundRuleIn (declared ds) c (call_row ds s) (IsTypedContract c s)
  sound outer ls rs G w y Gs i = on_all outer ls rs G w y Gs i
