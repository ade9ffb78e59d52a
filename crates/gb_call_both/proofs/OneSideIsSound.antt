-- `call` on one of two bodies is sound: the other side stands still, as after a call that changes nothing.
use Rattle.std.proofs.Common.{◌≡◌, ◌<◌, inl, ℕ, pos, Bool, true, false, List, [], ◌∷◌, ◌++◌, append-nil, filter, length, Option, Some, None, refl, ap, sym, ◌∙◌, subst, arith}
use Rattle.std.proofs.lemmas.Bool.{false≢true, or_parts}
use Rattle.std.proofs.lemmas.Option.{same_Some}
use Rattle.std.specs.List.{AllByRecursion, list_any}
use Rattle.gb_core.specs.declared.ty.Ty.{Ty}
use Rattle.gb_core.specs.declared.ty.Ty.TheVariants.{Real}
use Rattle.gb_core.specs.declared.value.Value.{Value}
use Rattle.gb_core.specs.declared.var.Var.{Var}
use Rattle.gb_core.specs.declared.var.Var.TheVariants as var
use Rattle.gb_dist.specs.WeightedList.{WeightedList, Every, On, dmap, total, unit}
use Rattle.gb_dist.specs.Coupling.{Coupling}
use Rattle.gb_dist.proofs.Basic.{coupling_dmap, coupling_left_alone, coupling_right_alone}
use Rattle.gb_dist.proofs.Entries.{On_of_Every}
use Rattle.gb_terms.specs.declared.decl.TypedName.{TypedName}
use Rattle.gb_terms.specs.declared.op.Rel.TheVariants.{AtLeast, Equal}
use Rattle.gb_terms.specs.declared.op.Side.{Side}
use Rattle.gb_terms.specs.declared.op.Side.TheVariants as side
use Rattle.gb_terms.specs.declared.term.Instr.{Instr}
use Rattle.gb_terms.specs.declared.term.Term.{Term}
use Rattle.gb_terms.specs.declared.term.Head.TheVariants.{Bound}
use Rattle.gb_terms.specs.Make.{node}
use Rattle.gb_walk.specs.Change.{Changes, term_changed}
use Rattle.gb_walk.specs.Clash.{variables_read}
use Rattle.gb_meaning.specs.Commands.{statements}
use Rattle.gb_meaning.specs.Judgments.{Judge, IsFair, IsTrueUnder, chance, compares, den, outcome_denominator}
use Rattle.gb_meaning.specs.Meanings.{fraction_in}
use Rattle.gb_meaning.specs.Memory.{Memory, arguments, result_in, result_name}
use Rattle.gb_meaning.specs.Names.{empty}
use Rattle.gb_meaning.specs.Program.{Routine}
use Rattle.gb_meaning.specs.Runs.{outcomes, returned, routine_denominator}
use Rattle.gb_meaning.specs.Setting.{Setting}
use Rattle.gb_meaning.specs.Sound.{IsSoundRoutine}
use Rattle.gb_meaning.specs.State.{State, at, between}
use Rattle.gb_meaning.specs.Written.{type_of}
use Rattle.gb_meaning.proofs.Runs.{routine_entries, routine_positive}
use Rattle.gb_meaning.proofs.Totals.{routine_bounded}
use Rattle.gb_laws.specs.Plain.{IsPlain}
use Rattle.gb_laws.specs.Written.{IsSide}
use Rattle.gb_laws.specs.Finite.{IsFinite}
use Rattle.gb_laws.specs.Programs.{Take}
use Rattle.gb_meaning.specs.Declared.{declared}
use Rattle.gb_goal.specs.declared.sequent.Sequent.{Sequent}
use Rattle.gb_goal.specs.Answers.Answer.{given}
use Rattle.gb_goal.specs.Goal.{Goal}
use Rattle.gb_goal.specs.Goal.Code.{body, procedure}
use Rattle.gb_goal.specs.Goal.Goal.{hoare, phoare, equiv}
use Rattle.gb_goal.specs.Scope.{Declarations, procedure_of}
use Rattle.gb_mods.specs.Exclusions.{exclusions}
use Rattle.gb_mods.specs.Written.{written}
use Rattle.gb_prog.proofs.KeptOff.{kept_off}
use Rattle.gb_steps.specs.declared.step.Acts.TheVariants as on
use Rattle.gb_steps.specs.declared.step.Contract.{Contract}
use Rattle.gb_typing.specs.Context.{Context, erased, reframed, with_own, with_sides}
use Rattle.gb_typing.specs.Fits.{IsSettingOf, IsStateOf}
use Rattle.gb_typing.specs.Forms.{IsAlone, IsKeptOff, implies_form, located}
use Rattle.gb_typing.specs.Goals.{IsGoalOver, IsTypedGoal}
use Rattle.gb_typing.specs.Meaning.{Stands, denominator, run}
use Rattle.gb_typing.specs.Programs.{IsBody, IsCall, type_of_procedure}
use Rattle.gb_typing.specs.Puts.{Readable}
use Rattle.gb_typing.specs.Rules.{IsSettingOver, IsSoundIn, ImpliesIn, outermost}
use Rattle.gb_typing.specs.Scopes.{context_of, IsTypedScope}
use Rattle.gb_typing.specs.Sequents.{of_sequent, IsTypedSequent}
use Rattle.gb_typing.specs.Typing.{before, after, IsForm, IsTyped}
use Rattle.gb_typing.proofs.Forms.{and_typed, and_use}
use Rattle.gb_typing.proofs.Located.{IsTypedThere}
use Rattle.gb_typing.proofs.Runs.{coupled_in_turn}
use Rattle.gb_typing.proofs.Spared.{Clear}
use Rattle.gb_prog.specs.AllValues.{Located, in_memory, for_all, to_bound_values}
use Rattle.gb_prog.specs.Calls.{called_from}
use Rattle.gb_prog.specs.Writes.{DifferIn, TypedVariable, AreIn, variables}
use Rattle.gb_prog.proofs.Certain.{certain_everywhere, chance_one}
use Rattle.gb_prog.specs.Assigned.{put_in, taken}
use Rattle.gb_prog.specs.OneBody.{OneBody}
use Rattle.gb_prog.specs.Compared.{literal}
use Rattle.gb_prog.proofs.Comparing.{literal_value}
use Rattle.gb_full.specs.Loss.{nowhere, code_loss}
use Rattle.gb_full.proofs.Full.{procedure_whole}
use Rattle.gb_call.specs.Call.{Callee, IsContract, before_call, callee_of, outcome as outcome_of}
use Rattle.gb_call.specs.LastCall.{LastCall, last_call}
use Rattle.gb_call.specs.Outcomes.{Outcome, after_call, after_where, clash_after, clashing_after, is_left, is_read, of_arguments, put_for, reads_result}
use Rattle.gb_call.specs.Written.{with_types}
use Rattle.gb_call.proofs.Callees as callees
use Rattle.gb_call.proofs.Callees.{IsResult, every_both, there, typed_with}
use Rattle.gb_call.proofs.Conditions.{IsSpared, nothing_least, after_spared, said_spared, globals_alone, left_alone, said_alone, said_read, unread_after, unread_said, with_result, without_result}
use Rattle.gb_call.proofs.LastCalls.{IsCalled}
use Rattle.gb_call_both.specs.BothOutcomes.{after_both_where, of_both_arguments}
use Rattle.gb_call_both.specs.OneSide.{judged, lost, on_one_side, on_side, side_goals}
use Rattle.gb_call_both.proofs.AfterBoth.{Covers, after_both_means, after_typed, frame_if, globals_among, hidden, moves}
use Rattle.gb_call_both.proofs.Alone.{both_alone, hidden_clear, results_alone}
use Rattle.gb_call_both.proofs.ArgumentsOfBoth.{arguments_typed, arguments_meaning}
use Rattle.gb_call_both.proofs.NarrowedSides.{sides_typed}
use Rattle.gb_call_both.proofs.OnSide.{form_on, means_on}
use Rattle.gb_call_both.proofs.SideGoals.{IsCallee, IsSideGiven, callee_given, callee_is}

-- a side that a rule leaves alone: after a call that returns nothing and writes nothing
abbrev still : Side → Outcome → Outcome
still r o = record { side = r; targets = []; result = o.result; globals = [] }

-- What is said after one call is what is said after both, where nothing happens on the other side.

module _ (o : Outcome) (said q : Term) where
  abbrev value_of : Located
  value_of = (o.side, record { variable = var.Local result_name; ty = o.result })

  -- the result goes to the left side, with so many values bound inside of it
  abbrev assigned_within : List Located → Changes
  assigned_within G = put_in o.side o.targets (taken o.targets (node (Bound (length G)) [] o.result))

  abbrev with_result_bound : List Located → Changes → Term
  with_result_bound G cs = for_all (value_of ∷ G) (implies_form (term_changed said (to_bound_values (value_of ∷ G))) (term_changed q (cs ++ to_bound_values G)))

  abbrev without_result_bound : List Located → Term
  without_result_bound G = for_all G (implies_form (term_changed said (to_bound_values G)) (term_changed q (to_bound_values G)))

left_after : (b : Bool) (xs : List Var) (R : Ty) (W : List TypedVariable) (said q : Term) →
    (let o : Outcome = record { side = side.Left; targets = xs; result = R; globals = W } in after_where AtLeast b o said q ≡ after_both_where b false o (still side.Right o) said q)
left_after true xs R W said q =
    let o : Outcome = record { side = side.Left; targets = xs; result = R; globals = W } in
    let G : List Located = in_memory side.Left W in
    (λ i. with_result_bound o said q (sym (append-nil G) i) (assigned_within o said q (sym (append-nil G) i)))
    ∙ ap (with_result_bound o said q (G ++ [])) (sym (append-nil (assigned_within o said q (G ++ []))))
left_after false xs R W said q =
    let o : Outcome = record { side = side.Left; targets = xs; result = R; globals = W } in
    ap (without_result_bound o said q) (sym (append-nil (in_memory side.Left W)))

right_after : (b : Bool) (xs : List Var) (R : Ty) (W : List TypedVariable) (said q : Term) →
    (let o : Outcome = record { side = side.Right; targets = xs; result = R; globals = W } in after_where AtLeast b o said q ≡ after_both_where false b (still side.Left o) o said q)
right_after true xs R W said q = refl
right_after false xs R W said q = refl

-- the bound of a judgment that is known is typed, and is 1
abbrev pub IsSure : Context → Option Term → Type 0
IsSure c None = Unit {0}
IsSure c (Some b) = IsTyped (with_own c None) b × (type_of b ≡ Real) × (literal b ≡ Some (pos 1))

module _ (ds : Declarations) (scoped : IsTypedScope (declared ds)) (t : Sequent) (typed : IsTypedSequent (context_of (declared ds)) t) (s : Contract) where
  abbrev c : Context
  c = of_sequent (context_of (declared ds)) t typed.frames

  -- The call that ends a body.
  module _ (outer : c ≡ outermost c) (ks : List TypedName) (is : List Instr) (typed_body : IsBody c ks is) (k : Callee) (last : last_call is ≡ Some k.call) (y : IsContract c s (Some k.call))
      (found : procedure_of ds k.call.procedure ≡ Some k.declared) (known : written ds k.call.procedure ≡ Some k.written) (plain_pre : IsPlain s.pre) (plain_post : IsPlain s.post) where
    abbrev R : Ty
    R = k.declared.result

    abbrev result : List TypedName
    result = record { name = result_name; ty = R } ∷ []

    pre_form : IsForm (with_own (outermost c) (Some k.declared.params)) s.pre
    pre_form =
        let x = there ds scoped t typed k.call.procedure k.declared found in
        subst (λ d. IsForm (with_own d (Some k.declared.params)) s.pre) outer (subst (λ o. IsForm (with_own c (before o)) s.pre) x.type y.0)

    post_form : IsForm (with_own (outermost c) (Some result)) s.post
    post_form =
        let x = there ds scoped t typed k.call.procedure k.declared found in
        subst (λ d. IsForm (with_own d (Some result)) s.post) outer (subst (λ o. IsForm (with_own c (after o)) s.post) x.type y.1)

    abbrev finite : IsFinite R
    finite = callees.finite_result ds scoped t typed outer ks is typed_body k.call last k.declared found k.written known

    abbrev takes : Take (erased (outermost c)) ks k.call.targets R
    takes = callees.takes ds scoped t typed outer ks is typed_body k.call last k.declared found k.written known

    abbrev call : IsCall c ks k.call.targets (Some (type_of_procedure k.declared)) k.call.arguments
    call = callees.call_typed ds scoped t typed outer ks is typed_body k.call last k.declared found k.written known

    abbrev ends : IsCalled c ks is k.call
    ends = callees.ends ds scoped t typed outer ks is typed_body k.call last k.declared found k.written known

    judged_typed : (rs : List TypedName) (b : Option Term) → IsSure c b → IsTypedGoal c (judged b k.call.procedure s)
    judged_typed rs None h = (ks, rs, (callees.procedure_there ds scoped t typed outer ks is typed_body k.call last k.declared found k.written known, y.0, y.1))
    judged_typed rs (Some b) h = (ks, rs, (callees.procedure_there ds scoped t typed outer ks is typed_body k.call last k.declared found k.written known, y.0, y.1, h.0, h.1))

    -- What is said holds of each outcome, and no weight is lost.
    module _ (g : Setting) (fits : IsSettingOf c g) (over : IsSettingOver (declared ds) g) (j : Judge) (v : State) where
      abbrev routine : Routine
      routine = callees.routine_in ds scoped t typed outer ks is typed_body k.call last k.declared found k.written known g fits

      abbrev values : Memory → List Value
      values m = callees.argument_values ds scoped t typed outer ks is typed_body k.call last k.declared found k.written known g v m

      abbrev start : Memory → Memory
      start m = called_from routine (values m) m.globals

      abbrev D : Memory → WeightedList Memory
      D m = outcomes g routine (values m) m.globals

      abbrev d : ℕ
      d = routine_denominator g routine

      sound : IsSoundRoutine g routine
      sound = callees.routine_sound ds scoped t typed outer ks is typed_body k.call last k.declared found k.written known g fits over

      abbrev holds : Memory → Bool
      holds h = den g j s.post (at v h)

      record IsSurely (m : Memory) : Type 0 where
        total : total (D m) ≡ d
        each : Every (λ h. holds h ≡ true) (D m)

      whole : code_loss ds (procedure k.call.procedure) ≡ nowhere → (m : Memory) → total (D m) ≡ d
      whole e m =
          let x = procedure_whole ds scoped t typed g fits over k.call.procedure e in
          let there = callees.is_routine ds scoped t typed outer ks is typed_body k.call last k.declared found k.written known g fits over in
          subst (λ r. total (outcomes g r (values m) m.globals) ≡ routine_denominator g r) (same_Some x.found routine (sym x.there ∙ there)) (x.total (values m) m.globals)

      surely : (b : Option Term) → IsSure c b → lost ds b k.call.procedure ≡ nowhere → Stands g j v (judged b k.call.procedure s) → (m : Memory) → IsTrueUnder g j s.pre (at v (start m)) → IsSurely m
      surely None h e does m x = record {
        total = whole e m;
        each = subst (Every (λ h. holds h ≡ true)) (callees.judged_outcomes ds scoped t typed outer ks is typed_body k.call last k.declared found k.written known g fits over v m) (does (start m) x);
      }
      surely (Some b) h e does m x =
          let certain : compares Equal (chance (D m) d holds) (pos 1, 1) ≡ true =
          subst (λ z. z) (λ i. compares Equal (chance (callees.judged_outcomes ds scoped t typed outer ks is typed_body k.call last k.declared found k.written known g fits over v m i)
          (outcome_denominator g (callees.is_routine ds scoped t typed outer ks is typed_body k.call last k.declared found k.written known g fits over i)) holds) (fraction_in (literal_value g j b (pos 1) h.2 v i)) ≡ true)
          (does (start m) x) in
          let z = (certain_everywhere (D m) d holds (routine_entries g routine sound (values m) m.globals) (routine_bounded g routine sound (values m) m.globals)).0 ((chance_one (D m) d holds).0 certain) in
          record { total = z.0; each = z.1 }

      abbrev IsOutcome : Memory → Memory → Type 0
      IsOutcome m h = IsResult g R h × DifferIn g.types k.written m (record { globals = h.globals; frame = m.frame })

      -- the outcomes of which it is known what they are
      outcomes_on : (m : Memory) → IsSurely m → On (λ h. (holds h ≡ true) × IsOutcome m h) (D m)
      outcomes_on m x =
          On_of_Every (λ h. (holds h ≡ true) × IsOutcome m h) (D m) (routine_entries g routine sound (values m) m.globals)
          (every_both (λ h. holds h ≡ true) (IsOutcome m) (D m) x.each (callees.each_outcome ds scoped t typed outer ks is typed_body k.call last k.declared found k.written known g fits over v m))

      abbrev call_run : (m : Memory) → run g v ((let x = ends in x.last) ∷ []) m ≡ dmap (returned g k.call.targets m) (D m)
      call_run m = callees.call_run ds scoped t typed outer ks is typed_body k.call last k.declared found k.written known g fits over v m

      abbrev call_denominator : denominator g ((let x = ends in x.last) ∷ []) ≡ d
      call_denominator = callees.call_denominator ds scoped t typed outer ks is typed_body k.call last k.declared found k.written known g fits over

    -- Which variables are read after the call, of a memory of the goal.
    module _ (r : Side) (i : IsSide r) (q said : Term) (b e : Context) (end_typed : IsTyped b q) (said_typed : IsTyped e said) (few : length k.call.targets < 9) (clear : clash_after (exclusions ds) r k.call.targets k.written said q ≡ None)
        (W : List TypedVariable) (types : with_types ds (filter (is_left r k.call.targets said q) k.written) ≡ Some W) where
      abbrev o : Outcome
      o = record { side = r; targets = k.call.targets; result = R; globals = W }

      abbrev occurs : Bool
      occurs = reads_result o said q

      are : (variables W ≡ filter (is_left r k.call.targets said q) k.written) × AreIn (outermost c) (Some []) W
      are = typed_with ds scoped t typed (filter (is_left r k.call.targets said q) k.written) W types

      no_clash : clashing_after (exclusions ds) r k.call.targets k.written said q ≡ []
      no_clash = nothing_least (clashing_after (exclusions ds) r k.call.targets k.written said q) clear

      unread : occurs ≡ false → (is_read r said (var.Local result_name) ≡ false) × (list_any (is_read r q) k.call.targets ≡ false)
      unread h = or_parts (is_read r said (var.Local result_name)) (list_any (is_read r q) k.call.targets) h

      narrow : Clear r i (hidden occurs) (variables_read r said)
      narrow = hidden_clear r i occurs said (λ h. (unread h).0)

      read_after : IsSpared (exclusions ds) r q (k.call.targets ++ k.written) (unread_after r i k.call.targets k.written said q occurs)
      read_after = after_spared r i k.call.targets k.written said q occurs (exclusions ds) no_clash b end_typed (λ f. (unread f).1)

      read_said : IsSpared (exclusions ds) r said k.written (unread_said r i k.call.targets k.written said q occurs)
      read_said = said_spared r i k.call.targets k.written said q occurs (exclusions ds) no_clash e said_typed (λ f. (unread f).0)

      covers : (g : Setting) → IsKeptOff (exclusions ds) g → (f : Bool) → occurs ≡ f → (let x = read_after in Covers g f (x.readable r) k.call.targets k.written W)
      covers g off true f = λ z x. with_result r i k.call.targets k.written said q occurs W are.0 g (exclusions ds) off read_after z x
      covers g off false f = λ z x. without_result r i k.call.targets k.written said q occurs W are.0 g (exclusions ds) off read_after f z x

    -- The call on the left.
    module _ (rs : List TypedName) (js : List Instr) (other : IsBody c rs js) (p q : Term) (p_form : IsForm (with_sides c (Some ks) (Some rs)) p) (q_form : IsForm (with_sides c (Some ks) (Some rs)) q)
        (few : length k.call.targets < 9) (clear : clash_after (exclusions ds) side.Left k.call.targets k.written (located side.Left s.post) q ≡ None)
        (W : List TypedVariable) (types : with_types ds (filter (is_left side.Left k.call.targets (located side.Left s.post) q) k.written) ≡ Some W) where
      abbrev left_outcome : Outcome
      left_outcome = record { side = side.Left; targets = k.call.targets; result = R; globals = W }

      abbrev left_said : Term
      left_said = located side.Left s.post

      abbrev left_context : Context
      left_context = reframed (outermost c) None (Some ks) (Some rs)

      abbrev left_said_context : Context
      left_said_context = reframed (outermost c) None (Some result) (Some [])

      left_end : IsForm left_context q
      left_end = subst (λ d. IsForm (with_sides d (Some ks) (Some rs)) q) outer q_form

      left_said_form : IsForm left_said_context left_said
      left_said_form = form_on c (Some result) (Some result) (Some []) side.Left tt refl s.post plain_post post_form

      abbrev left_occurs : Bool
      left_occurs = reads_result left_outcome left_said q

      left_are : (variables W ≡ filter (is_left side.Left k.call.targets left_said q) k.written) × AreIn (outermost c) (Some []) W
      left_are = are side.Left tt q left_said left_context left_said_context left_end.typed left_said_form.typed few clear W types

      abbrev left_spared : IsSpared (exclusions ds) side.Left q (k.call.targets ++ k.written) (unread_after side.Left tt k.call.targets k.written left_said q left_occurs)
      left_spared = read_after side.Left tt q left_said left_context left_said_context left_end.typed left_said_form.typed few clear W types

      abbrev left_said_spared : IsSpared (exclusions ds) side.Left left_said k.written (unread_said side.Left tt k.call.targets k.written left_said q left_occurs)
      left_said_spared = read_said side.Left tt q left_said left_context left_said_context left_end.typed left_said_form.typed few clear W types

      left_narrow : IsForm (reframed (outermost c) None (Some (frame_if left_occurs R)) (Some [])) left_said
      left_narrow = record {
        typed =
            sides_typed (Some result) (Some []) (Some (frame_if left_occurs R)) (Some []) (hidden left_occurs) (hidden true)
            (moves left_occurs R) (λ d x z n w. w) (λ z. tt) (λ z. tt) left_said (outermost c)
            (narrow side.Left tt q left_said left_context left_said_context left_end.typed left_said_form.typed few clear W types) (hidden_clear side.Right tt true left_said (λ e. absurd (false≢true (sym e)))) left_said_form.typed;
        truth = left_said_form.truth;
      }

      left_after_form : IsForm left_context (after_call AtLeast left_outcome left_said q)
      left_after_form =
          subst (IsForm left_context) (sym (left_after left_occurs k.call.targets R W left_said q))
          (after_typed c ks rs R R W [] left_are.1 tt finite finite k.call.targets [] takes tt few (omega arith) (in_memory side.Left W ++ in_memory side.Right []) (globals_among c W [] left_are.1 tt) left_said q left_occurs false left_narrow left_end)

      left_pre : IsForm (with_sides c (Some k.declared.params) (Some [])) (located side.Left s.pre)
      left_pre =
          subst (λ d. IsForm (with_sides d (Some k.declared.params) (Some [])) (located side.Left s.pre)) (sym outer)
          (form_on c (Some k.declared.params) (Some k.declared.params) (Some []) side.Left tt refl s.pre plain_pre pre_form)

      -- what is put in the places of the parameters
      left_arguments : of_both_arguments k.declared.params k.call.arguments [] [] (located side.Left s.pre) ≡ of_arguments side.Left k.declared.params k.call.arguments (located side.Left s.pre)
      left_arguments = ap (term_changed (located side.Left s.pre)) (append-nil (put_for side.Left k.declared.params k.call.arguments))

      left_before_form : IsForm (with_sides c (Some ks) (Some rs)) (before_call AtLeast side.Left k W (on_side side.Left s) q)
      left_before_form =
          and_typed (with_sides c (Some ks) (Some rs)) _ _
          (subst (IsForm (with_sides c (Some ks) (Some rs))) left_arguments
          (arguments_typed c outer ks rs k.declared.params [] k.call.arguments [] (located side.Left s.pre) call.0 tt left_pre))
          (subst (λ d. IsForm (with_sides d (Some ks) (Some rs)) (after_call AtLeast left_outcome left_said q)) (sym outer) left_after_form)

      abbrev left_one : OneBody
      left_one = record { side = side.Left; list = is; pre = p; post = q; goal = λ is p q. equiv (body is) (body js) p q }

      left_goals_typed : (b : Option Term) → IsSure c b → AllByRecursion (IsTypedGoal c) (side_goals b s left_one k W)
      left_goals_typed b h = let x = ends in (judged_typed rs b h, ((ks, rs, (tt, x.rest, other, p_form, left_before_form)), tt))

      module _ (g : Setting) (fits : IsSettingOf c g) (over : IsSettingOver (declared ds) g) (j : Judge) (fair : IsFair g j) (v : State) (fit : IsStateOf c g v) where
        left_fits : IsSettingOf (outermost c) g
        left_fits = subst (λ d. IsSettingOf d g) outer fits

        left_state : IsStateOf (outermost c) g v
        left_state = subst (λ d. IsStateOf d g v) outer fit

        left_off : IsKeptOff (exclusions ds) g
        left_off = kept_off ds scoped g over

        left_globals : let x = left_spared in AllByRecursion (λ w. IsAlone g w.variable (x.readable side.Left)) W
        left_globals = globals_alone side.Left tt k.call.targets k.written left_said q left_occurs W left_are.0 g (exclusions ds) left_off left_spared

        left_targets : let x = left_spared in AllByRecursion (λ z. IsAlone g z (x.readable side.Left)) k.call.targets
        left_targets = left_alone side.Left tt k.call.targets k.written left_said q left_occurs W left_are.0 g (exclusions ds) left_off left_spared

        left_said_globals : let x = left_said_spared in AllByRecursion (λ w. IsAlone g w.variable (x.readable side.Left)) W
        left_said_globals = said_alone side.Left tt k.call.targets k.written left_said q left_occurs W left_are.0 g (exclusions ds) left_off left_said_spared

        -- what is said of an outcome leads to what is to hold after the call
        left_ends : (m n h : Memory) → IsOutcome g fits over j v m h → IsTrueUnder g j (after_call AtLeast left_outcome left_said q) (between v m n) → holds g fits over j v h ≡ true →
            IsTrueUnder g j q (between v (returned g k.call.targets m h) n)
        left_ends m n h x after said =
            let S = left_spared in
            let Z = left_said_spared in
            after_both_means c ks rs R R W [] left_are.1 tt finite finite k.call.targets [] takes tt few (omega arith) (in_memory side.Left W ++ in_memory side.Right []) (globals_among c W [] left_are.1 tt) left_said q left_occurs false left_narrow left_end
            g left_fits j fair v left_state m n h (record { globals = n.globals; frame = h.frame }) k.written [] x.1 (λ z u. refl) (result_in h) (result_in h) x.0.0 x.0.0 x.0.1 x.0.1
            Z.readable Z.within (results_alone g Z.readable left_occurs false k.call.targets [] R R W [] (in_memory side.Left W ++ in_memory side.Right []) (both_alone g Z.readable W [] left_said_globals tt))
            (λ z f. said_read side.Left tt k.call.targets k.written left_said q left_occurs W left_are.0 g (exclusions ds) left_off left_said_spared z f) (λ z f. inl tt) left_said_globals tt
            S.readable S.within left_globals tt left_targets tt (both_alone g S.readable W [] left_globals tt)
            (covers side.Left tt q left_said left_context left_said_context left_end.typed left_said_form.typed few clear W types g left_off left_occurs refl) (λ z f. (tt, inl tt))
            (subst (λ f. IsTrueUnder g j f (between v m n)) (left_after left_occurs k.call.targets R W left_said q) after)
            (means_on c (Some result) side.Left g j v h (record { globals = n.globals; frame = h.frame }) s.post plain_post post_form ∙ said)

        -- after the call there is a coupling with the other side, which stands still
        left_returns : (b : Option Term) → IsSure c b → lost ds b k.call.procedure ≡ nowhere → Stands g j v (judged b k.call.procedure s) → (m n : Memory) →
            IsTrueUnder g j (before_call AtLeast side.Left k W (on_side side.Left s) q) (between v m n) →
            Coupling (λ x z. IsTrueUnder g j q (between v x z)) (run g v ((let x = ends in x.last) ∷ []) m) (denominator g ((let x = ends in x.last) ∷ [])) (run g v [] n) (denominator g [])
        left_returns b h e does m n before =
            let A : Term = of_arguments side.Left k.declared.params k.call.arguments (located side.Left s.pre) in
            let parts = and_use g j A (after_call AtLeast left_outcome left_said q) (between v m n) before in
            let from : IsTrueUnder g j s.pre (at v (start g fits over j v m)) =
            sym (means_on c (Some k.declared.params) side.Left g j v (start g fits over j v m) (record { globals = n.globals; frame = arguments empty [] [] }) s.pre plain_pre pre_form)
            ∙ sym (arguments_meaning c outer ks rs k.declared.params [] k.call.arguments [] g j v m n (located side.Left s.pre) call.0 tt fits fair left_pre)
            ∙ ap (λ f. den g j f (between v m n)) left_arguments ∙ parts.0 in
            let x : IsSurely g fits over j v m = surely g fits over j v b h e does m from in
            subst (λ z. z) (λ i. Coupling (λ x z. IsTrueUnder g j q (between v x z)) (sym (call_run g fits over j v m) i) (sym (call_denominator g fits over j v) i) (unit n) 1)
            (coupling_dmap {Q = λ h z. IsTrueUnder g j q (between v (returned g k.call.targets m h) z)} (λ x z. IsTrueUnder g j q (between v x z)) (returned g k.call.targets m) (λ z. z) (λ h z f. f)
            (coupling_left_alone (λ h. (holds g fits over j v h ≡ true) × IsOutcome g fits over j v m h) (λ h z. IsTrueUnder g j q (between v (returned g k.call.targets m h) z)) (D g fits over j v m) (d g fits over j v) n
            (routine_positive g (routine g fits over j v) (sound g fits over j v)) x.total (outcomes_on g fits over j v m x) (λ h f. left_ends m n h f.1 parts.1 f.0)))

      left_implied : (b : Option Term) → IsSure c b → lost ds b k.call.procedure ≡ nowhere → ImpliesIn (declared ds) c (side_goals b s left_one k W) (equiv (body is) (body js) p q)
      left_implied b h e g fits over j fair v fit does m n x =
          let z = ends in
          coupled_in_turn g v (λ a d. IsTrueUnder g j q (between v a d)) (λ a d. IsTrueUnder g j (before_call AtLeast side.Left k W (on_side side.Left s) q) (between v a d)) is js k.call.before (z.last ∷ []) js [] z.shape (sym (append-nil js))
          m n (does.1.0 m n x) (λ a d f. left_returns g fits over j fair v fit b h e does.0 a d f)

    -- The call on the right.
    module _ (ls : List TypedName) (js : List Instr) (other : IsBody c ls js) (p q : Term) (p_form : IsForm (with_sides c (Some ls) (Some ks)) p) (q_form : IsForm (with_sides c (Some ls) (Some ks)) q)
        (few : length k.call.targets < 9) (clear : clash_after (exclusions ds) side.Right k.call.targets k.written (located side.Right s.post) q ≡ None)
        (W : List TypedVariable) (types : with_types ds (filter (is_left side.Right k.call.targets (located side.Right s.post) q) k.written) ≡ Some W) where
      abbrev right_outcome : Outcome
      right_outcome = record { side = side.Right; targets = k.call.targets; result = R; globals = W }

      abbrev right_said : Term
      right_said = located side.Right s.post

      abbrev right_context : Context
      right_context = reframed (outermost c) None (Some ls) (Some ks)

      abbrev right_said_context : Context
      right_said_context = reframed (outermost c) None (Some []) (Some result)

      right_end : IsForm right_context q
      right_end = subst (λ d. IsForm (with_sides d (Some ls) (Some ks)) q) outer q_form

      right_said_form : IsForm right_said_context right_said
      right_said_form = form_on c (Some result) (Some []) (Some result) side.Right tt refl s.post plain_post post_form

      abbrev right_occurs : Bool
      right_occurs = reads_result right_outcome right_said q

      right_are : (variables W ≡ filter (is_left side.Right k.call.targets right_said q) k.written) × AreIn (outermost c) (Some []) W
      right_are = are side.Right tt q right_said right_context right_said_context right_end.typed right_said_form.typed few clear W types

      abbrev right_spared : IsSpared (exclusions ds) side.Right q (k.call.targets ++ k.written) (unread_after side.Right tt k.call.targets k.written right_said q right_occurs)
      right_spared = read_after side.Right tt q right_said right_context right_said_context right_end.typed right_said_form.typed few clear W types

      abbrev right_said_spared : IsSpared (exclusions ds) side.Right right_said k.written (unread_said side.Right tt k.call.targets k.written right_said q right_occurs)
      right_said_spared = read_said side.Right tt q right_said right_context right_said_context right_end.typed right_said_form.typed few clear W types

      right_narrow : IsForm (reframed (outermost c) None (Some []) (Some (frame_if right_occurs R))) right_said
      right_narrow = record {
        typed =
            sides_typed (Some []) (Some result) (Some []) (Some (frame_if right_occurs R)) (hidden true) (hidden right_occurs)
            (λ d x z n w. w) (moves right_occurs R) (λ z. tt) (λ z. tt) right_said (outermost c)
            (hidden_clear side.Left tt true right_said (λ e. absurd (false≢true (sym e)))) (narrow side.Right tt q right_said right_context right_said_context right_end.typed right_said_form.typed few clear W types) right_said_form.typed;
        truth = right_said_form.truth;
      }

      right_after_form : IsForm right_context (after_call AtLeast right_outcome right_said q)
      right_after_form =
          subst (IsForm right_context) (sym (right_after right_occurs k.call.targets R W right_said q))
          (after_typed c ls ks R R [] W tt right_are.1 finite finite [] k.call.targets tt takes (omega arith) few (in_memory side.Left [] ++ in_memory side.Right W) (globals_among c [] W tt right_are.1) right_said q false right_occurs right_narrow right_end)

      right_pre : IsForm (with_sides c (Some []) (Some k.declared.params)) (located side.Right s.pre)
      right_pre =
          subst (λ d. IsForm (with_sides d (Some []) (Some k.declared.params)) (located side.Right s.pre)) (sym outer)
          (form_on c (Some k.declared.params) (Some []) (Some k.declared.params) side.Right tt refl s.pre plain_pre pre_form)

      -- what is put in the places of the parameters
      right_arguments : of_both_arguments [] [] k.declared.params k.call.arguments (located side.Right s.pre) ≡ of_arguments side.Right k.declared.params k.call.arguments (located side.Right s.pre)
      right_arguments = refl

      right_before_form : IsForm (with_sides c (Some ls) (Some ks)) (before_call AtLeast side.Right k W (on_side side.Right s) q)
      right_before_form =
          and_typed (with_sides c (Some ls) (Some ks)) _ _
          (subst (IsForm (with_sides c (Some ls) (Some ks))) right_arguments
          (arguments_typed c outer ls ks [] k.declared.params [] k.call.arguments (located side.Right s.pre) tt call.0 right_pre))
          (subst (λ d. IsForm (with_sides d (Some ls) (Some ks)) (after_call AtLeast right_outcome right_said q)) (sym outer) right_after_form)

      abbrev right_one : OneBody
      right_one = record { side = side.Right; list = is; pre = p; post = q; goal = λ is p q. equiv (body js) (body is) p q }

      right_goals_typed : (b : Option Term) → IsSure c b → AllByRecursion (IsTypedGoal c) (side_goals b s right_one k W)
      right_goals_typed b h = let x = ends in (judged_typed ls b h, ((ls, ks, (tt, other, x.rest, p_form, right_before_form)), tt))

      module _ (g : Setting) (fits : IsSettingOf c g) (over : IsSettingOver (declared ds) g) (j : Judge) (fair : IsFair g j) (v : State) (fit : IsStateOf c g v) where
        right_fits : IsSettingOf (outermost c) g
        right_fits = subst (λ d. IsSettingOf d g) outer fits

        right_state : IsStateOf (outermost c) g v
        right_state = subst (λ d. IsStateOf d g v) outer fit

        right_off : IsKeptOff (exclusions ds) g
        right_off = kept_off ds scoped g over

        right_globals : let x = right_spared in AllByRecursion (λ w. IsAlone g w.variable (x.readable side.Right)) W
        right_globals = globals_alone side.Right tt k.call.targets k.written right_said q right_occurs W right_are.0 g (exclusions ds) right_off right_spared

        right_targets : let x = right_spared in AllByRecursion (λ z. IsAlone g z (x.readable side.Right)) k.call.targets
        right_targets = left_alone side.Right tt k.call.targets k.written right_said q right_occurs W right_are.0 g (exclusions ds) right_off right_spared

        right_said_globals : let x = right_said_spared in AllByRecursion (λ w. IsAlone g w.variable (x.readable side.Right)) W
        right_said_globals = said_alone side.Right tt k.call.targets k.written right_said q right_occurs W right_are.0 g (exclusions ds) right_off right_said_spared

        -- what is said of an outcome leads to what is to hold after the call
        right_ends : (m n h : Memory) → IsOutcome g fits over j v n h → IsTrueUnder g j (after_call AtLeast right_outcome right_said q) (between v m n) → holds g fits over j v h ≡ true →
            IsTrueUnder g j q (between v m (returned g k.call.targets n h))
        right_ends m n h x after said =
            let S = right_spared in
            let Z = right_said_spared in
            after_both_means c ls ks R R [] W tt right_are.1 finite finite [] k.call.targets tt takes (omega arith) few (in_memory side.Left [] ++ in_memory side.Right W) (globals_among c [] W tt right_are.1) right_said q false right_occurs right_narrow right_end
            g right_fits j fair v right_state m n (record { globals = m.globals; frame = h.frame }) h [] k.written (λ z u. refl) x.1 (result_in h) (result_in h) x.0.0 x.0.0 x.0.1 x.0.1
            Z.readable Z.within (results_alone g Z.readable false right_occurs [] k.call.targets R R [] W (in_memory side.Left [] ++ in_memory side.Right W) (both_alone g Z.readable [] W tt right_said_globals))
            (λ z f. inl tt) (λ z f. said_read side.Right tt k.call.targets k.written right_said q right_occurs W right_are.0 g (exclusions ds) right_off right_said_spared z f) tt right_said_globals
            S.readable S.within tt right_globals tt right_targets (both_alone g S.readable [] W tt right_globals)
            (λ z f. (tt, inl tt)) (covers side.Right tt q right_said right_context right_said_context right_end.typed right_said_form.typed few clear W types g right_off right_occurs refl)
            (subst (λ f. IsTrueUnder g j f (between v m n)) (right_after right_occurs k.call.targets R W right_said q) after)
            (means_on c (Some result) side.Right g j v (record { globals = m.globals; frame = h.frame }) h s.post plain_post post_form ∙ said)

        -- after the call there is a coupling with the other side, which stands still
        right_returns : (b : Option Term) → IsSure c b → lost ds b k.call.procedure ≡ nowhere → Stands g j v (judged b k.call.procedure s) → (m n : Memory) →
            IsTrueUnder g j (before_call AtLeast side.Right k W (on_side side.Right s) q) (between v m n) →
            Coupling (λ x z. IsTrueUnder g j q (between v x z)) (run g v [] m) (denominator g []) (run g v ((let x = ends in x.last) ∷ []) n) (denominator g ((let x = ends in x.last) ∷ []))
        right_returns b h e does m n before =
            let A : Term = of_arguments side.Right k.declared.params k.call.arguments (located side.Right s.pre) in
            let parts = and_use g j A (after_call AtLeast right_outcome right_said q) (between v m n) before in
            let from : IsTrueUnder g j s.pre (at v (start g fits over j v n)) =
            sym (means_on c (Some k.declared.params) side.Right g j v (record { globals = m.globals; frame = arguments empty [] [] }) (start g fits over j v n) s.pre plain_pre pre_form)
            ∙ sym (arguments_meaning c outer ls ks [] k.declared.params [] k.call.arguments g j v m n (located side.Right s.pre) tt call.0 fits fair right_pre)
            ∙ ap (λ f. den g j f (between v m n)) right_arguments ∙ parts.0 in
            let x : IsSurely g fits over j v n = surely g fits over j v b h e does n from in
            subst (λ z. z) (λ i. Coupling (λ x z. IsTrueUnder g j q (between v x z)) (unit m) 1 (sym (call_run g fits over j v n) i) (sym (call_denominator g fits over j v) i))
            (coupling_dmap {Q = λ z h. IsTrueUnder g j q (between v z (returned g k.call.targets n h))} (λ x z. IsTrueUnder g j q (between v x z)) (λ z. z) (returned g k.call.targets n) (λ z h f. f)
            (coupling_right_alone (λ h. (holds g fits over j v h ≡ true) × IsOutcome g fits over j v n h) (λ z h. IsTrueUnder g j q (between v z (returned g k.call.targets n h))) (D g fits over j v n) (d g fits over j v) m
            (routine_positive g (routine g fits over j v) (sound g fits over j v)) x.total (outcomes_on g fits over j v n x) (λ h f. right_ends m n h f.1 parts.1 f.0)))

      right_implied : (b : Option Term) → IsSure c b → lost ds b k.call.procedure ≡ nowhere → ImpliesIn (declared ds) c (side_goals b s right_one k W) (equiv (body js) (body is) p q)
      right_implied b h e g fits over j fair v fit does m n x =
          let z = ends in
          coupled_in_turn g v (λ a d. IsTrueUnder g j q (between v a d)) (λ a d. IsTrueUnder g j (before_call AtLeast side.Right k W (on_side side.Right s) q) (between v a d)) js is js [] k.call.before (z.last ∷ []) (sym (append-nil js)) z.shape
          m n (does.1.0 m n x) (λ a d f. right_returns g fits over j fair v fit b h e does.0 a d f)

  -- the call on the left of two bodies
  pub left_sound : (outer : c ≡ outermost c) (ls rs : List TypedName) (is js : List Instr) (p q : Term) (w : IsGoalOver c ls rs (equiv (body is) (body js) p q)) (b : Option Term) → IsSure c b →
      IsContract c s (last_call is) → IsSoundIn (declared ds) c (on_one_side ds b s on.Left) (equiv (body is) (body js) p q)
  left_sound outer ls rs is js p q w b h y Gs i =
      let o : OneBody = record { side = side.Left; list = is; pre = p; post = q; goal = λ is p q. equiv (body is) (body js) p q } in
      let x = callee_given ds b s o Gs (callee_of ds (last_call is)) i in
      let e = callee_is ds (last_call is) x.0 x.1 in
      let z = x.2 in
      let y : IsContract c s (Some x.0.call) = subst (IsContract c s) e.last y in
      subst (λ Gs. AllByRecursion (IsTypedGoal c) Gs × ImpliesIn (declared ds) c Gs (equiv (body is) (body js) p q)) z.goals (
        left_goals_typed outer ls is w.1 x.0 e.last y e.found e.known z.plain_pre z.plain_post rs js w.2 p q w.3 w.4 z.few z.clear z.globals z.types b h,
        left_implied outer ls is w.1 x.0 e.last y e.found e.known z.plain_pre z.plain_post rs js w.2 p q w.3 w.4 z.few z.clear z.globals z.types b h z.full,
      )

  -- the call on the right
  pub right_sound : (outer : c ≡ outermost c) (ls rs : List TypedName) (is js : List Instr) (p q : Term) (w : IsGoalOver c ls rs (equiv (body is) (body js) p q)) (b : Option Term) → IsSure c b →
      IsContract c s (last_call js) → IsSoundIn (declared ds) c (on_one_side ds b s on.Right) (equiv (body is) (body js) p q)
  right_sound outer ls rs is js p q w b h y Gs i =
      let o : OneBody = record { side = side.Right; list = js; pre = p; post = q; goal = λ js p q. equiv (body is) (body js) p q } in
      let x = callee_given ds b s o Gs (callee_of ds (last_call js)) i in
      let e = callee_is ds (last_call js) x.0 x.1 in
      let z = x.2 in
      let y : IsContract c s (Some x.0.call) = subst (IsContract c s) e.last y in
      subst (λ Gs. AllByRecursion (IsTypedGoal c) Gs × ImpliesIn (declared ds) c Gs (equiv (body is) (body js) p q)) z.goals (
        right_goals_typed outer rs js w.2 x.0 e.last y e.found e.known z.plain_pre z.plain_post ls is w.1 p q w.3 w.4 z.few z.clear z.globals z.types b h,
        right_implied outer rs js w.2 x.0 e.last y e.found e.known z.plain_pre z.plain_post ls is w.1 p q w.3 w.4 z.few z.clear z.globals z.types b h z.full,
      )
