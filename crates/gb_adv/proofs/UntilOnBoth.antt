-- `call (_ : B, I)` on two bodies is sound.
use Rattle.std.proofs.Common.{◌≡◌, ◌<◌, Bool, true, false, not, ◌&&◌, ◌||◌, if◌then◌else◌, List, [], ◌∷◌, ◌++◌, filter, length, Option, Some, None, nat_lt, refl, ap, sym, ◌∙◌, subst}
use Rattle.std.proofs.lemmas.Bool.{and_parts, false≢true, or_parts}
use Rattle.std.specs.List.{AllByRecursion, list_any}
use Rattle.gb_core.specs.declared.refusal.Why.TheVariants.{NotLossless, Shape, SideCondition}
use Rattle.gb_core.specs.declared.ty.Ty.{Ty}
use Rattle.gb_core.specs.declared.ty.Ty.TheVariants as ty
use Rattle.gb_core.specs.declared.value.Value.{Value}
use Rattle.gb_core.specs.declared.var.Var.{Var}
use Rattle.gb_core.specs.declared.var.Var.TheVariants as var
use Rattle.gb_dist.specs.Coupling.{Coupling}
use Rattle.gb_dist.proofs.Basic.{coupling_dmap}
use Rattle.gb_terms.specs.declared.decl.TypedName.{TypedName}
use Rattle.gb_terms.specs.declared.op.Side.TheVariants as side
use Rattle.gb_terms.specs.declared.term.Instr.{Instr}
use Rattle.gb_terms.specs.declared.term.Term.{Term}
use Rattle.gb_terms.proofs.Equality.{side_eq-Decides}
use Rattle.gb_walk.specs.Clash.{clashes}
use Rattle.gb_meaning.specs.Judgments.{Judge, IsFair, IsTrueUnder}
use Rattle.gb_meaning.specs.Memory.{Memory, read, result_in}
use Rattle.gb_meaning.specs.Names.{Name}
use Rattle.gb_meaning.specs.Program.{Routine}
use Rattle.gb_meaning.specs.Runs.{outcomes, returned, routine_denominator}
use Rattle.gb_meaning.specs.Setting.{Setting}
use Rattle.gb_meaning.specs.State.{State, between}
use Rattle.gb_laws.specs.Finite.{IsFinite}
use Rattle.gb_laws.specs.Programs.{Take}
use Rattle.gb_laws.specs.Uses.{Uses, IsWithin}
use Rattle.gb_meaning.specs.Declared.{declared}
use Rattle.gb_goal.specs.Answers.{Answer}
use Rattle.gb_goal.specs.Answers.Answer.{given, refused}
use Rattle.gb_goal.specs.Goal.{Goal}
use Rattle.gb_goal.specs.Goal.Code.{body, procedure}
use Rattle.gb_goal.specs.Goal.Goal.{equiv}
use Rattle.gb_goal.specs.Interfaces.{procedure_type}
use Rattle.gb_goal.specs.Rows.{refusing}
use Rattle.gb_goal.specs.Scope.{Declarations, abstract_of, as_abstract}
use Rattle.gb_goal.specs.declared.sequent.Sequent.{Sequent}
use Rattle.gb_mods.specs.Exclusions.{exclusions}
use Rattle.gb_mods.specs.Meant.{meant_by}
use Rattle.gb_mods.specs.declared.meant.Meant.TheVariants.{Any}
use Rattle.gb_typing.specs.Context.{Context, erased, reframed, with_own, with_sides}
use Rattle.gb_typing.specs.Fits.{IsSettingOf, IsStateOf}
use Rattle.gb_typing.specs.Forms.{IsAlone, IsKeptOff, and_form, located}
use Rattle.gb_typing.specs.Goals.{IsGoalOver, IsTypedGoal}
use Rattle.gb_typing.specs.Meaning.{Stands, denominator, run}
use Rattle.gb_typing.specs.Programs.{IsCall}
use Rattle.gb_typing.specs.Puts.{Readable, reading}
use Rattle.gb_typing.specs.Rules.{ImpliesIn, IsSettingOver, outermost}
use Rattle.gb_typing.specs.Scopes.{context_of, IsTypedScope}
use Rattle.gb_typing.specs.Sequents.{IsTypedSequent, of_sequent, one, two}
use Rattle.gb_typing.specs.Typing.{IsForm, IsIn}
use Rattle.gb_typing.proofs.Both.{within_both}
use Rattle.gb_typing.proofs.Forms.{and_typed, and_use}
use Rattle.gb_typing.proofs.Given.{refused_at, refused_given, sound_given_in}
use Rattle.gb_typing.proofs.Spared.{spared_variables, spared_within}
use Rattle.gb_typing.proofs.Variables.{variable_finite}
use Rattle.gb_prog.proofs.KeptOff.{kept_off}
use Rattle.gb_prog.proofs.Signatures.{type_variables}
use Rattle.gb_prog.proofs.There.{abstract_there}
use Rattle.gb_prog.specs.AllValues.{AreAlone, Located, in_memory}
use Rattle.gb_prog.specs.Writes.{AreIn, TypedVariable, variables}
use Rattle.gb_prog.proofs.Couplings.{runs_sequence}
use Rattle.gb_prog.proofs.AssignedForms.{in_both}
use Rattle.gb_call.specs.Call.{if_few, unless_clash}
use Rattle.gb_call.specs.LastCall.{last_call}
use Rattle.gb_call.specs.Outcomes.{Outcome, clashing_after, is_left}
use Rattle.gb_call.specs.Written.{glob_type, global_type}
use Rattle.gb_call.proofs.After.{all_append}
use Rattle.gb_call.proofs.Callees.{few, typed_with}
use Rattle.gb_call.proofs.Conditions.{IsSpared, after_spared, globals_alone, left_alone, nothing_least, said_alone, said_read, said_spared, unread_after, unread_said, with_result}
use Rattle.gb_call.proofs.Globals.{variable_there}
use Rattle.gb_call.proofs.LastCalls.{IsCalled}
use Rattle.gb_call_both.proofs.AfterBoth.{AreAmong, after_both_means, after_typed, frame_if}
use Rattle.gb_call_both.proofs.OnSide.{form_on}
use Rattle.gb_call_both.proofs.SideSteps.{plain_form}
use Rattle.gb_call_both.specs.BothOutcomes.{after_among}
use Rattle.gb_call_both.specs.OneSide.{speaks, where_full}
use Rattle.gb_full.specs.Loss.{Loss, called as lost_in_call, code_loss, nowhere, sampled}
use Rattle.gb_steps.specs.declared.step.Until.{Until}
use Rattle.gb_laws.specs.Plain.{IsPlain}
use Rattle.gb_call_both.proofs.Alone.{both_alone, fewer_read, fewer_targets, results_alone}
use Rattle.gb_adv.specs.Abstract.{AbstractCall, abstract_call, same_abstract}
use Rattle.gb_adv.specs.Call.{clash_of_both, outcome, read_after}
use Rattle.gb_adv.specs.Equations.{followed_by, same_arguments, same_owner, same_result}
use Rattle.gb_adv.specs.Oracles.{behind, meeting_both, writes_of}
use Rattle.gb_adv.specs.Until.{after_until, as_long, before_until, by_calls_until, by_full, by_writes_until, each_keep_until, end_until, on_both_until, start_until, until_goals}
use Rattle.gb_adv.proofs.AfterReturns.{owner}
use Rattle.gb_adv.proofs.Agreed.{arguments_use, followed_use, same_is}
use Rattle.gb_adv.proofs.AskedTypes.{asked_alike}
use Rattle.gb_adv.proofs.BothCalls.{one_type, right_meant, same_name}
use Rattle.gb_adv.proofs.Called as called
use Rattle.gb_adv.proofs.EquationsTyped.{arguments_typed, followed_typed, owner_typed, result_typed}
use Rattle.gb_adv.proofs.Found.{AreOne, IsFoundCall, are_one, call_found}
use Rattle.gb_adv.proofs.KeptForms.{over_both_locals}
use Rattle.gb_adv.proofs.OracleGoals.{all_parts}
use Rattle.gb_adv.proofs.UntilCalls.{AreEndsUntil, both_until}
use Rattle.gb_adv.proofs.UntilForms.{changed_among, left_end_reads, right_end_reads, until_meets_none, with_owner}
use Rattle.gb_adv.proofs.UntilGoals.{each_keep_until_typed, long_typed}
use Rattle.gb_adv.proofs.UntilKept.{event, long_use}

both_empty : (xs ys : List Var) → xs ++ ys ≡ [] → (xs ≡ []) × (ys ≡ [])
both_empty [] ys e = (refl, e)
both_empty (x ∷ xs) ys e = cc

module _ (ds : Declarations) (scoped : IsTypedScope (declared ds)) (t : Sequent) (typed : IsTypedSequent (context_of (declared ds)) t) (u : Until) where
  abbrev c : Context
  c = of_sequent (context_of (declared ds)) t typed.frames

  module _ (outer : c ≡ outermost c) (ls rs : List TypedName) (is js : List Instr) (p q : Term) (w : IsGoalOver c ls rs (equiv (body is) (body js) p q)) (forms : IsForm (one c []) u.event × IsForm (two c [] []) u.kept) where
    module _ (k l : AbstractCall) (left_found : IsFoundCall ds is k) (right_found : IsFoundCall ds js l) (one : AreOne k.called l.called) (left_few : length k.call.targets < 9) (right_few : length l.call.targets < 9)
        (T U : List Var) (left_known : writes_of ds k.called.oracles ≡ Some T) (right_known : writes_of ds l.called.oracles ≡ Some U) where
      abbrev a : Name
      a = k.called.owner

      abbrev R : Ty
      R = k.called.type.result

      left_meant : meant_by ds k.call.procedure ≡ Any a k.called.oracles
      left_meant = let x = left_found.procedure in x.meant

      left_type : procedure_type ds None k.call.procedure ≡ Some k.called.type
      left_type = let x = left_found.procedure in x.known

      -- both procedures have one type
      types_same : k.called.type ≡ l.called.type
      types_same = one_type ds scoped t typed k.call.procedure l.call.procedure k.called l.called left_found.procedure right_found.procedure one

      right_type : procedure_type ds None l.call.procedure ≡ Some k.called.type
      right_type = (let x = right_found.procedure in x.known) ∙ ap Some (sym types_same)

      finite : IsFinite R
      finite = variable_finite R (type_variables ds k.call.procedure a k.called.oracles left_meant k.called.type left_type scoped).1

      -- all that is the module's own may be read
      owned : IsIn (outermost c) (Some []) (var.Glob a) (ty.Glob a) × IsFinite (ty.Glob a)
      owned = variable_there ds scoped t typed.frames (var.Glob a) (ty.Glob a) owner_type
        where
          owner_type : global_type ds (var.Glob a) ≡ Some (ty.Glob a)
          owner_type =
              let x = abstract_there ds k.call.procedure a k.called.oracles left_meant in
              ap (glob_type a) (ap (abstract_of ds) (sym x.name) ∙ ap as_abstract x.bound)

      left_takes : Take (erased (outermost c)) ls k.call.targets R
      left_takes = called.takes ds scoped t typed outer ls is w.1 k.call left_found.last k.called.type left_type

      right_takes : Take (erased (outermost c)) rs l.call.targets R
      right_takes = called.takes ds scoped t typed outer rs js w.2 l.call right_found.last k.called.type right_type

      left_call : IsCall c ls k.call.targets (Some k.called.type) k.call.arguments
      left_call = called.call_typed ds scoped t typed outer ls is w.1 k.call left_found.last k.called.type left_type

      right_call : IsCall c rs l.call.targets (Some k.called.type) l.call.arguments
      right_call = called.call_typed ds scoped t typed outer rs js w.2 l.call right_found.last k.called.type right_type

      abbrev left_ends : IsCalled c ls is k.call
      left_ends = called.ends ds scoped t typed outer ls is w.1 k.call left_found.last k.called.type left_type

      abbrev right_ends : IsCalled c rs js l.call
      right_ends = called.ends ds scoped t typed outer rs js w.2 l.call right_found.last k.called.type right_type

      -- what is said of both ends
      abbrev said : Term
      said = end_until u k.called

      module _ (plain : IsPlain u.event) (meets : meeting_both (exclusions ds) a (as_long u u.kept) T U ≡ None) (clear : clash_of_both (exclusions ds) k l said q T U ≡ None)
          (left_whole : code_loss ds (procedure k.call.procedure) ≡ nowhere) (right_whole : code_loss ds (procedure l.call.procedure) ≡ nowhere) (W V : List TypedVariable)
          (left_types : read_after ds side.Left k said q T ≡ Some W) (right_types : read_after ds side.Right l said q U ≡ Some V) where
        left_are : (variables W ≡ filter (is_left side.Left k.call.targets said q) T) × AreIn (outermost c) (Some []) W
        left_are = typed_with ds scoped t typed (filter (is_left side.Left k.call.targets said q) T) W left_types

        right_are : (variables V ≡ filter (is_left side.Right l.call.targets said q) U) × AreIn (outermost c) (Some []) V
        right_are = typed_with ds scoped t typed (filter (is_left side.Right l.call.targets said q) U) V right_types

        -- all that is the module's own and what the oracles write, in each memory
        abbrev LW : List TypedVariable
        LW = owner a ∷ W

        abbrev RV : List TypedVariable
        RV = owner a ∷ V

        abbrev LT : List Var
        LT = var.Glob a ∷ T

        abbrev RU : List Var
        RU = var.Glob a ∷ U

        left_own : variables LW ≡ filter (is_left side.Left k.call.targets said q) LT
        left_own = with_owner side.Left k.call.targets T a said q W (left_end_reads u k.called) left_are.0

        right_own : variables RV ≡ filter (is_left side.Right l.call.targets said q) RU
        right_own = with_owner side.Right l.call.targets U a said q V (right_end_reads u k.called) right_are.0

        abbrev G : List Located
        G = (side.Left, owner a) ∷ (side.Right, owner a) ∷ (in_memory side.Left W ++ in_memory side.Right V)

        among : AreAmong c LW RV G
        among = changed_among c a W V owned left_are.1 right_are.1

        -- Forms.

        event_form : IsForm (reframed (outermost c) (Some []) None None) u.event
        event_form = subst (λ e. IsForm (with_own e (Some [])) u.event) outer forms.0

        kept_form : IsForm (reframed (outermost c) None (Some []) (Some [])) u.kept
        kept_form = subst (λ e. IsForm (with_sides e (Some []) (Some [])) u.kept) outer forms.1

        right_event : IsForm (two c [] []) (located side.Right u.event)
        right_event =
            subst (λ e. IsForm (with_sides e (Some []) (Some [])) (located side.Right u.event)) (sym outer)
            (form_on c (Some []) (Some []) (Some []) side.Right tt refl u.event plain event_form)

        abbrev result : List TypedName
        result = frame_if true R

        said_here : IsForm (with_sides c (Some result) (Some result)) said
        said_here =
            long_typed ds c (called.knows ds scoped t typed) u forms.0 right_event forms.1 result result (and_form (and_form (same_result R) (same_owner a)) u.kept)
            (and_typed (with_sides c (Some result) (Some result)) (and_form (same_result R) (same_owner a)) u.kept
            (and_typed (with_sides c (Some result) (Some result)) (same_result R) (same_owner a) (result_typed c R R finite refl) (owner_typed c a owned.0.1 result result))
            (over_both_locals c u.kept forms.1 result result))

        said_form : IsForm (reframed (outermost c) None (Some result) (Some result)) said
        said_form = subst (λ e. IsForm (with_sides e (Some result) (Some result)) said) outer said_here

        end_form : IsForm (reframed (outermost c) None (Some ls) (Some rs)) q
        end_form = subst (λ e. IsForm (with_sides e (Some ls) (Some rs)) q) outer w.4

        abbrev left_outcome : Outcome
        left_outcome = record { side = side.Left; targets = k.call.targets; result = R; globals = W }

        abbrev right_outcome : Outcome
        right_outcome = record { side = side.Right; targets = l.call.targets; result = R; globals = V }

        -- what is to hold after the calls, with one type of results
        after_are : after_until u k W l V q ≡ after_among true true left_outcome right_outcome G said q
        after_are = λ z. after_among true true left_outcome (record { side = side.Right; targets = l.call.targets; result = (let x = sym types_same z in x.result); globals = V }) G said q

        after_form : IsForm (reframed (outermost c) None (Some ls) (Some rs)) (after_among true true left_outcome right_outcome G said q)
        after_form =
            after_typed c ls rs R R LW RV (owned, left_are.1) (owned, right_are.1) finite finite k.call.targets l.call.targets left_takes right_takes left_few right_few G among said q true true said_form end_form

        before_form : IsForm (two c ls rs) (before_until u k W l V q)
        before_form =
            and_typed (two c ls rs) _ _
            (long_typed ds c (called.knows ds scoped t typed) u forms.0 right_event forms.1 ls rs (and_form (followed_by u.kept (same_arguments k.call.arguments l.call.arguments)) (same_owner a))
            (and_typed (two c ls rs) _ _
            (followed_typed c (Some ls) (Some rs) u.kept (over_both_locals c u.kept forms.1 ls rs) (same_arguments k.call.arguments l.call.arguments)
            (arguments_typed c ls rs k.called.type.params k.call.arguments l.call.arguments left_call.0 right_call.0))
            (owner_typed c a owned.0.1 ls rs)))
            (subst (λ e. IsForm (with_sides e (Some ls) (Some rs)) (after_until u k W l V q)) (sym outer)
            (subst (IsForm (reframed (outermost c) None (Some ls) (Some rs))) (sym after_are) after_form))

        no_clash : (clashing_after (exclusions ds) side.Left k.call.targets LT said q ≡ []) × (clashing_after (exclusions ds) side.Right l.call.targets RU said q ≡ [])
        no_clash =
            let x = both_empty (clashing_after (exclusions ds) side.Left k.call.targets LT said q) (clashing_after (exclusions ds) side.Right l.call.targets (var.Glob l.called.owner ∷ U) said q)
            (nothing_least _ clear) in
            (x.0, subst (λ z. clashing_after (exclusions ds) side.Right l.call.targets (var.Glob z ∷ U) said q ≡ []) (sym one.owner) x.1)

        left_after : IsSpared (exclusions ds) side.Left q (k.call.targets ++ LT) (unread_after side.Left tt k.call.targets LT said q true)
        left_after = after_spared side.Left tt k.call.targets LT said q true (exclusions ds) no_clash.0 _ end_form.typed (λ f. absurd (false≢true (sym f)))

        right_after : IsSpared (exclusions ds) side.Right q (l.call.targets ++ RU) (unread_after side.Right tt l.call.targets RU said q true)
        right_after = after_spared side.Right tt l.call.targets RU said q true (exclusions ds) no_clash.1 _ end_form.typed (λ f. absurd (false≢true (sym f)))

        left_said : IsSpared (exclusions ds) side.Left said LT (unread_said side.Left tt k.call.targets LT said q true)
        left_said = said_spared side.Left tt k.call.targets LT said q true (exclusions ds) no_clash.0 _ said_form.typed (λ f. absurd (false≢true (sym f)))

        right_said : IsSpared (exclusions ds) side.Right said RU (unread_said side.Right tt l.call.targets RU said q true)
        right_said = said_spared side.Right tt l.call.targets RU said q true (exclusions ds) no_clash.1 _ said_form.typed (λ f. absurd (false≢true (sym f)))

        -- the variables that both conditions leave
        abbrev P : Readable
        P r z = let x = left_after in let y = right_after in x.readable r z && y.readable r z

        abbrev Q : Readable
        Q r z = let x = left_said in let y = right_said in x.readable r z && y.readable r z

        left_read : (z : Var) → P side.Left z ≡ true → (let x = left_after in x.readable side.Left z) ≡ true
        left_read z f = (and_parts _ _ f).0

        right_read : (z : Var) → P side.Right z ≡ true → (let x = right_after in x.readable side.Right z) ≡ true
        right_read z f = (and_parts _ _ f).1

        left_said_read : (z : Var) → Q side.Left z ≡ true → (let x = left_said in x.readable side.Left z) ≡ true
        left_said_read z f = (and_parts _ _ f).0

        right_said_read : (z : Var) → Q side.Right z ≡ true → (let x = right_said in x.readable side.Right z) ≡ true
        right_said_read z f = (and_parts _ _ f).1

        end_within : IsWithin (reading P) q
        end_within =
            let x = left_after in
            let z = right_after in
            subst (λ (K : Uses). IsWithin K q) (λ i v. in_both x.readable z.readable v i) (within_both (reading x.readable) (reading z.readable) q x.within z.within)

        said_within : IsWithin (reading Q) said
        said_within =
            let x = left_said in
            let z = right_said in
            subst (λ (K : Uses). IsWithin K said) (λ i v. in_both x.readable z.readable v i) (within_both (reading x.readable) (reading z.readable) said x.within z.within)

        -- of those that stand in any order
        spread : (g : Setting) (S : Readable) → AllByRecursion (λ z. IsAlone g z.variable (S side.Left)) LW → AllByRecursion (λ z. IsAlone g z.variable (S side.Right)) RV → AreAlone g S G
        spread g S h e = (h.0, (e.0, both_alone g S W V h.1 e.1))

        module _ (g : Setting) (fits : IsSettingOf c g) (over : IsSettingOver (declared ds) g) (j : Judge) (fair : IsFair g j) (v : State) (fit : IsStateOf c g v) where
          fits_there : IsSettingOf (outermost c) g
          fits_there = subst (λ e. IsSettingOf e g) outer fits

          state_there : IsStateOf (outermost c) g v
          state_there = subst (λ e. IsStateOf e g v) outer fit

          off : IsKeptOff (exclusions ds) g
          off = kept_off ds scoped g over

          left_globals : AllByRecursion (λ z. IsAlone g z.variable (P side.Left)) LW
          left_globals = fewer_read g (P side.Left) _ left_read LW (globals_alone side.Left tt k.call.targets LT said q true LW left_own g (exclusions ds) off left_after)

          right_globals : AllByRecursion (λ z. IsAlone g z.variable (P side.Right)) RV
          right_globals = fewer_read g (P side.Right) _ right_read RV (globals_alone side.Right tt l.call.targets RU said q true RV right_own g (exclusions ds) off right_after)

          left_targets : AllByRecursion (λ x. IsAlone g x (P side.Left)) k.call.targets
          left_targets = fewer_targets g (P side.Left) _ left_read k.call.targets (left_alone side.Left tt k.call.targets LT said q true LW left_own g (exclusions ds) off left_after)

          right_targets : AllByRecursion (λ x. IsAlone g x (P side.Right)) l.call.targets
          right_targets = fewer_targets g (P side.Right) _ right_read l.call.targets (left_alone side.Right tt l.call.targets RU said q true RV right_own g (exclusions ds) off right_after)

          left_said_globals : AllByRecursion (λ z. IsAlone g z.variable (Q side.Left)) LW
          left_said_globals = fewer_read g (Q side.Left) _ left_said_read LW (said_alone side.Left tt k.call.targets LT said q true LW left_own g (exclusions ds) off left_said)

          right_said_globals : AllByRecursion (λ z. IsAlone g z.variable (Q side.Right)) RV
          right_said_globals = fewer_read g (Q side.Right) _ right_said_read RV (said_alone side.Right tt l.call.targets RU said q true RV right_own g (exclusions ds) off right_said)

          -- what holds before the calls leads from where the procedures end to what is to hold after the calls
          ends : (m n h e : Memory) → AreEndsUntil g j v u k.called T U m n h e → IsTrueUnder g j (after_until u k W l V q) (between v m n) →
              IsTrueUnder g j q (between v (returned g k.call.targets m h) (returned g l.call.targets n e))
          ends m n h e x holds =
              after_both_means c ls rs R R LW RV (owned, left_are.1) (owned, right_are.1) finite finite k.call.targets l.call.targets left_takes right_takes left_few right_few G among
              said q true true said_form end_form
              g fits_there j fair v state_there m n h e LT RU x.left.1 x.right.1 (result_in h) (result_in e) x.left.0.0 x.right.0.0 x.left.0.1 x.right.0.1
              Q said_within (results_alone g Q true true k.call.targets l.call.targets R R LW RV G (spread g Q left_said_globals right_said_globals))
              (λ z f. said_read side.Left tt k.call.targets LT said q true LW left_own g (exclusions ds) off left_said z (left_said_read z f))
              (λ z f. said_read side.Right tt l.call.targets RU said q true RV right_own g (exclusions ds) off right_said z (right_said_read z f))
              left_said_globals right_said_globals
              P end_within left_globals right_globals left_targets right_targets (spread g P left_globals right_globals)
              (λ z f. with_result side.Left tt k.call.targets LT said q true LW left_own g (exclusions ds) off left_after z (left_read z f))
              (λ z f. with_result side.Right tt l.call.targets RU said q true RV right_own g (exclusions ds) off right_after z (right_read z f))
              (subst (λ f. IsTrueUnder g j f (between v m n)) after_are holds) x.said

          abbrev A : Routine
          A = called.routine_in ds scoped t typed outer ls is w.1 k.call left_found.last k.called.type left_type g fits

          abbrev B : Routine
          B = called.routine_in ds scoped t typed outer rs js w.2 l.call right_found.last k.called.type right_type g fits

          abbrev left_values : Memory → List Value
          left_values m = called.argument_values ds scoped t typed outer ls is w.1 k.call left_found.last k.called.type left_type g v m

          abbrev right_values : Memory → List Value
          right_values n = called.argument_values ds scoped t typed outer rs js w.2 l.call right_found.last k.called.type right_type g v n

          -- where the goals of the oracles stand
          module _ (Hs : List Goal) (shown : each_keep_until ds u k.called.oracles l.called.oracles ≡ given Hs) (stand : AllByRecursion (Stands g j v) Hs) (m n : Memory)
              (holds : IsTrueUnder g j (before_until u k W l V q) (between v m n)) where
            whole : IsTrueUnder g j (start_until u k l) (between v m n) × IsTrueUnder g j (after_until u k W l V q) (between v m n)
            whole = let z = and_use g j (start_until u k l) (after_until u k W l V q) (between v m n) holds in (z.0, z.1)

            -- as long as the event hasn't come about, the arguments are the same, all that is the module's own is, and what is kept holds
            starts : event c g fits_there j fair v u plain event_form kept_form n.globals ≡ false →
                (left_values m ≡ right_values n) × (read g.types m (var.Glob a) (ty.Glob a) ≡ read g.types n (var.Glob a) (ty.Glob a)) × IsTrueUnder g j u.kept (between v m n)
            starts e =
                let z = and_use g j (followed_by u.kept (same_arguments k.call.arguments l.call.arguments)) (same_owner a) (between v m n)
                (long_use c g fits_there j fair v u plain event_form kept_form (and_form (followed_by u.kept (same_arguments k.call.arguments l.call.arguments)) (same_owner a)) m n whole.0 e) in
                let y = followed_use g j v m n u.kept (same_arguments k.call.arguments l.call.arguments) z.0 in (
                  arguments_use c ls rs g fits j v m n k.called.type.params k.call.arguments l.call.arguments left_call.0 right_call.0 y.1,
                  (same_is g j v m n (var.Glob a) (ty.Glob a)).0 z.1,
                  y.0,
                )

            coupled : Coupling (AreEndsUntil g j v u k.called T U m n) (outcomes g A (left_values m) m.globals) (routine_denominator g A) (outcomes g B (right_values n) n.globals) (routine_denominator g B)
            coupled =
                both_until ds scoped t typed k.call.procedure l.call.procedure k.called l.called left_found.procedure right_found.procedure one T U left_known right_known left_whole right_whole u plain
                (until_meets_none ds k.called u T U meets) event_form kept_form g fits fits_there over j fair v Hs shown stand A B
                (called.is_routine ds scoped t typed outer ls is w.1 k.call left_found.last k.called.type left_type g fits)
                (called.is_routine ds scoped t typed outer rs js w.2 l.call right_found.last k.called.type right_type g fits)
                (called.of_type ds scoped t typed outer ls is w.1 k.call left_found.last k.called.type left_type g fits)
                (called.of_type ds scoped t typed outer rs js w.2 l.call right_found.last k.called.type right_type g fits)
                (left_values m) (right_values n) m n starts

            -- so after the calls there is a coupling
            returns_coupled : Coupling (λ y z. IsTrueUnder g j q (between v y z)) (run g v ((let x = left_ends in x.last) ∷ []) m) (denominator g ((let x = left_ends in x.last) ∷ []))
                (run g v ((let x = right_ends in x.last) ∷ []) n) (denominator g ((let x = right_ends in x.last) ∷ []))
            returns_coupled =
                subst (λ z. z) (λ x. Coupling (λ y z. IsTrueUnder g j q (between v y z))
                (sym (called.call_run ds scoped t typed outer ls is w.1 k.call left_found.last k.called.type left_type g fits v m) x)
                (sym (called.call_denominator ds scoped t typed outer ls is w.1 k.call left_found.last k.called.type left_type g fits) x)
                (sym (called.call_run ds scoped t typed outer rs js w.2 l.call right_found.last k.called.type right_type g fits v n) x)
                (sym (called.call_denominator ds scoped t typed outer rs js w.2 l.call right_found.last k.called.type right_type g fits) x))
                (coupling_dmap {Q = AreEndsUntil g j v u k.called T U m n} (λ y z. IsTrueUnder g j q (between v y z)) (returned g k.call.targets m) (returned g l.call.targets n)
                (λ h e f. ends m n h e f whole.1) coupled)

        module _ (Hs : List Goal) (shown : each_keep_until ds u k.called.oracles l.called.oracles ≡ given Hs) where
          abbrev goals : List Goal
          goals = Hs ++ equiv (body k.call.before) (body l.call.before) p (before_until u k W l V q) ∷ []

          goals_typed : AllByRecursion (IsTypedGoal c) goals
          goals_typed =
              let x = left_ends in
              let y = right_ends in
              all_append (IsTypedGoal c) Hs (equiv (body k.call.before) (body l.call.before) p (before_until u k W l V q) ∷ [])
              (each_keep_until_typed ds c (called.knows ds scoped t typed) u forms.0 right_event forms.1 k.called.oracles l.called.oracles
              (asked_alike ds scoped k.call.procedure l.call.procedure a k.called.oracles l.called.oracles left_meant
              (right_meant ds scoped t typed k.call.procedure l.call.procedure k.called l.called left_found.procedure right_found.procedure one)
              (same_name ds scoped t typed k.call.procedure l.call.procedure k.called l.called left_found.procedure right_found.procedure one)) Hs shown)
              ((ls, rs, (tt, x.rest, y.rest, w.3, before_form)), tt)

          goals_imply : ImpliesIn (declared ds) c goals (equiv (body is) (body js) p q)
          goals_imply g fits over j fair v fit h m n x =
              let f = left_ends in
              let z = right_ends in
              let y = all_parts (Stands g j v) Hs (equiv (body k.call.before) (body l.call.before) p (before_until u k W l V q) ∷ []) h in
              subst (λ b. b) (λ i. Coupling (λ x z. IsTrueUnder g j q (between v x z)) (run g v (sym f.shape i) m) (denominator g (sym f.shape i)) (run g v (sym z.shape i) n) (denominator g (sym z.shape i)))
              (runs_sequence g v k.call.before l.call.before (f.last ∷ []) (z.last ∷ []) (λ x z. IsTrueUnder g j (before_until u k W l V q) (between v x z)) (λ x z. IsTrueUnder g j q (between v x z)) m n
              (y.1.0 m n x) (λ x z r. returns_coupled g fits over j fair v fit Hs shown y.0 x z r))

    -- the row, step by step
    module _ (Gs : List Goal) where
      abbrev Result : Type 0
      Result = AllByRecursion (IsTypedGoal c) Gs × ImpliesIn (declared ds) c Gs (equiv (body is) (body js) p q)

      module _ (k l : AbstractCall) (left_found : IsFoundCall ds is k) (right_found : IsFoundCall ds js l) where
        abbrev ending : Term
        ending = end_until u k.called

        module _ (one : AreOne k.called l.called) (left_few : length k.call.targets < 9) (right_few : length l.call.targets < 9) (plain : IsPlain u.event) where
          module _ (T U : List Var) (left_known : writes_of ds k.called.oracles ≡ Some T) (right_known : writes_of ds l.called.oracles ≡ Some U) where
            module _ (meets : meeting_both (exclusions ds) k.called.owner (as_long u u.kept) T U ≡ None) (clear : clash_of_both (exclusions ds) k l ending q T U ≡ None) where
              abbrev left_loss : Loss
              left_loss = code_loss ds (procedure k.call.procedure)

              abbrev right_loss : Loss
              right_loss = code_loss ds (procedure l.call.procedure)

              module _ (left_whole : left_loss ≡ nowhere) (right_whole : right_loss ≡ nowhere) where
                by_oracles : (W V : List TypedVariable) → read_after ds side.Left k ending q T ≡ Some W → read_after ds side.Right l ending q U ≡ Some V →
                    (x : Answer (List Goal)) → each_keep_until ds u k.called.oracles l.called.oracles ≡ x →
                    behind x (equiv (body k.call.before) (body l.call.before) p (before_until u k W l V q) ∷ []) ≡ given Gs → Result
                by_oracles W V f r (refused why place) y z = refused_at why place Gs z
                by_oracles W V f r (given Hs) y z =
                    sound_given_in (declared ds) c (equiv (body is) (body js) p q) (Hs ++ equiv (body k.call.before) (body l.call.before) p (before_until u k W l V q) ∷ []) Gs (
                      goals_typed k l left_found right_found one left_few right_few T U left_known right_known plain meets clear left_whole right_whole W V f r Hs y,
                      goals_imply k l left_found right_found one left_few right_few T U left_known right_known plain meets clear left_whole right_whole W V f r Hs y,
                    ) z

                by_types : (f : Option (List TypedVariable)) → read_after ds side.Left k ending q T ≡ f → (r : Option (List TypedVariable)) → read_after ds side.Right l ending q U ≡ r →
                    until_goals ds u k l p q f r ≡ given Gs → Result
                by_types None f r h z = refused_given Shape Gs z
                by_types (Some W) f None h z = refused_given Shape Gs z
                by_types (Some W) f (Some V) h z = by_oracles W V f h (each_keep_until ds u k.called.oracles l.called.oracles) refl z

              abbrev last_part : Answer (List Goal)
              last_part = until_goals ds u k l p q (read_after ds side.Left k ending q T) (read_after ds side.Right l ending q U)

              by_right : left_loss ≡ nowhere → (x : Loss) → right_loss ≡ x → where_full x last_part ≡ given Gs → Result
              by_right f nowhere r z = by_types f r (read_after ds side.Left k ending q T) refl (read_after ds side.Right l ending q U) refl z
              by_right f (sampled y) r z = refused_given (NotLossless y) Gs z
              by_right f lost_in_call r z = refused_given Shape Gs z

              by_left : (x : Loss) → left_loss ≡ x → where_full x (where_full right_loss last_part) ≡ given Gs → Result
              by_left nowhere f z = by_right f right_loss refl z
              by_left (sampled y) f z = refused_given (NotLossless y) Gs z
              by_left lost_in_call f z = refused_given Shape Gs z

            abbrev rest : Answer (List Goal)
            rest = by_full ds u ending k l p q T U

            by_clash : meeting_both (exclusions ds) k.called.owner (as_long u u.kept) T U ≡ None → (x : Option Var) → clash_of_both (exclusions ds) k l ending q T U ≡ x → unless_clash x rest ≡ given Gs → Result
            by_clash meets (Some y) f z = refused_given (SideCondition y) Gs z
            by_clash meets None f z = by_left meets f (code_loss ds (procedure k.call.procedure)) refl z

            by_meeting : (x : Option Var) → meeting_both (exclusions ds) k.called.owner (as_long u u.kept) T U ≡ x → unless_clash x (unless_clash (clash_of_both (exclusions ds) k l ending q T U) rest) ≡ given Gs → Result
            by_meeting (Some y) f z = refused_given (SideCondition y) Gs z
            by_meeting None f z = by_clash f (clash_of_both (exclusions ds) k l ending q T U) refl z

          by_written : (f : Option (List Var)) → writes_of ds k.called.oracles ≡ f → (r : Option (List Var)) → writes_of ds l.called.oracles ≡ r → by_writes_until ds u k l p q f r ≡ given Gs → Result
          by_written None f r h z = refused_given Shape Gs z
          by_written (Some T) f None h z = refused_given Shape Gs z
          by_written (Some T) f (Some U) h z = by_meeting T U f h (meeting_both (exclusions ds) k.called.owner (as_long u u.kept) T U) refl z

        abbrev writing : Answer (List Goal)
        writing = by_writes_until ds u k l p q (writes_of ds k.called.oracles) (writes_of ds l.called.oracles)

        by_speaking : AreOne k.called l.called → length k.call.targets < 9 → length l.call.targets < 9 → (x : Bool) → speaks u.event ≡ x → (if x then refusing Shape else writing) ≡ given Gs → Result
        by_speaking one f r true e z = refused_given Shape Gs z
        by_speaking one f r false e z = by_written one f r (plain_form u.event e) (writes_of ds k.called.oracles) refl (writes_of ds l.called.oracles) refl z

        abbrev silent : Answer (List Goal)
        silent = if speaks u.event then refusing Shape else writing

        by_many : AreOne k.called l.called → (x : Bool) → nat_lt (length k.call.targets) 9 ≡ x → (y : Bool) → nat_lt (length l.call.targets) 9 ≡ y →
            (if x then (if y then silent else refusing Shape) else refusing Shape) ≡ given Gs → Result
        by_many one true f true r z = by_speaking one (few k.call.targets f) (few l.call.targets r) (speaks u.event) refl z
        by_many one true f false r z = refused_given Shape Gs z
        by_many one false f y r z = refused_given Shape Gs z

        by_names : (x : Bool) → same_abstract k.called l.called ≡ x → (if x then if_few k.call.targets (if_few l.call.targets silent) else refusing Shape) ≡ given Gs → Result
        by_names true f z = by_many (are_one k.called l.called f) (nat_lt (length k.call.targets) 9) refl (nat_lt (length l.call.targets) 9) refl z
        by_names false f z = refused_given Shape Gs z

        by_calls_sound : by_calls_until ds u k l p q ≡ given Gs → Result
        by_calls_sound z = by_names (same_abstract k.called l.called) refl z

      by_found : (f : Option AbstractCall) → abstract_call ds (last_call is) ≡ f → (r : Option AbstractCall) → abstract_call ds (last_call js) ≡ r → on_both_until ds u p q f r ≡ given Gs → Result
      by_found None f r h z = refused_given Shape Gs z
      by_found (Some k) f None h z = refused_given Shape Gs z
      by_found (Some k) f (Some l) h z = by_calls_sound k l (call_found ds is k f) (call_found ds js l h) z

      -- what the row gives is typed, and implies the goal
      pub both_sound : on_both_until ds u p q (abstract_call ds (last_call is)) (abstract_call ds (last_call js)) ≡ given Gs → Result
      both_sound z = by_found (abstract_call ds (last_call is)) refl (abstract_call ds (last_call js)) refl z
