-- `call (_ : I)` on two bodies is sound.
use Rattle.std.proofs.Common.{◌≡◌, ◌<◌, Bool, true, false, not, ◌&&◌, ◌||◌, if◌then◌else◌, List, [], ◌∷◌, ◌++◌, filter, length, Option, Some, None, nat_lt, refl, ap, sym, ◌∙◌, subst}
use Rattle.std.proofs.lemmas.Bool.{and_parts, false≢true, or_parts}
use Rattle.std.specs.List.{AllByRecursion, list_any}
use Rattle.gb_core.specs.declared.refusal.Why.TheVariants.{Shape, SideCondition}
use Rattle.gb_core.specs.declared.ty.Ty.{Ty}
use Rattle.gb_core.specs.declared.ty.Ty.TheVariants as ty
use Rattle.gb_core.specs.declared.value.Value.{Value}
use Rattle.gb_core.specs.declared.var.Var.{Var}
use Rattle.gb_core.specs.declared.var.Var.TheVariants as var
use Rattle.gb_dist.specs.Coupling.{Coupling}
use Rattle.gb_dist.proofs.Basic.{coupling_dmap}
use Rattle.gb_terms.specs.declared.decl.TypedName.{TypedName}
use Rattle.gb_terms.specs.declared.op.Side.TheVariants as side
use Rattle.gb_terms.specs.declared.term.Instr.{Instr}
use Rattle.gb_terms.specs.declared.term.Term.{Term}
use Rattle.gb_terms.proofs.Equality.{side_eq-Decides}
use Rattle.gb_walk.specs.Clash.{clashes}
use Rattle.gb_meaning.specs.Judgments.{Judge, IsFair, IsTrueUnder}
use Rattle.gb_meaning.specs.Memory.{Memory, assigned, result_in, result_name}
use Rattle.gb_meaning.specs.Names.{Name}
use Rattle.gb_meaning.specs.Program.{Routine}
use Rattle.gb_meaning.specs.Runs.{outcomes, returned, routine_denominator}
use Rattle.gb_meaning.specs.Setting.{Setting}
use Rattle.gb_meaning.specs.State.{State, between}
use Rattle.gb_laws.specs.Finite.{IsFinite}
use Rattle.gb_laws.specs.Programs.{Take}
use Rattle.gb_laws.specs.Uses.{Uses, IsWithin}
use Rattle.gb_meaning.specs.Declared.{declared}
use Rattle.gb_goal.specs.Answers.{Answer}
use Rattle.gb_goal.specs.Answers.Answer.{given, refused}
use Rattle.gb_goal.specs.Goal.{Goal}
use Rattle.gb_goal.specs.Goal.Code.{body}
use Rattle.gb_goal.specs.Goal.Goal.{equiv}
use Rattle.gb_goal.specs.Interfaces.{procedure_type}
use Rattle.gb_goal.specs.Rows.{refusing}
use Rattle.gb_goal.specs.Scope.{Declarations, abstract_of, as_abstract}
use Rattle.gb_goal.specs.declared.sequent.Sequent.{Sequent}
use Rattle.gb_mods.specs.Exclusions.{exclusions}
use Rattle.gb_mods.specs.Meant.{meant_by}
use Rattle.gb_mods.specs.declared.meant.Meant.TheVariants.{Any}
use Rattle.gb_typing.specs.Context.{Context, erased, reframed, with_sides}
use Rattle.gb_typing.specs.Fits.{IsSettingOf, IsStateOf}
use Rattle.gb_typing.specs.Forms.{IsAlone, IsKeptOff, and_form}
use Rattle.gb_typing.specs.Goals.{IsGoalOver, IsTypedGoal}
use Rattle.gb_typing.specs.Meaning.{Stands, denominator, run}
use Rattle.gb_typing.specs.Programs.{IsCall}
use Rattle.gb_typing.specs.Puts.{Readable, reading}
use Rattle.gb_typing.specs.Rules.{ImpliesIn, IsSettingOver, outermost}
use Rattle.gb_typing.specs.Scopes.{context_of, IsTypedScope}
use Rattle.gb_typing.specs.Sequents.{IsTypedSequent, of_sequent, two}
use Rattle.gb_typing.specs.Typing.{IsForm, IsIn}
use Rattle.gb_typing.proofs.Both.{within_both}
use Rattle.gb_typing.proofs.Forms.{and_typed, and_use}
use Rattle.gb_typing.proofs.Given.{refused_at, refused_given, sound_given_in}
use Rattle.gb_typing.proofs.Spared.{spared_variables, spared_within}
use Rattle.gb_typing.proofs.Variables.{variable_finite}
use Rattle.gb_prog.proofs.KeptOff.{kept_off}
use Rattle.gb_prog.proofs.Signatures.{type_variables}
use Rattle.gb_prog.proofs.There.{abstract_there}
use Rattle.gb_prog.specs.AllValues.{in_memory}
use Rattle.gb_prog.specs.Writes.{AreIn, TypedVariable, variables}
use Rattle.gb_prog.proofs.Couplings.{runs_sequence}
use Rattle.gb_prog.proofs.AssignedForms.{in_both}
use Rattle.gb_call.specs.Call.{if_few, unless_clash}
use Rattle.gb_call.specs.LastCall.{last_call}
use Rattle.gb_call.specs.Outcomes.{clashing_after, is_left, is_read, reads_result}
use Rattle.gb_call.specs.Written.{glob_type, global_type}
use Rattle.gb_call.proofs.After.{all_append}
use Rattle.gb_call.proofs.Callees.{few, typed_with}
use Rattle.gb_call.proofs.Conditions.{IsSpared, after_spared, nothing_least, said_spared, unread_after, unread_said}
use Rattle.gb_call.proofs.Globals.{variable_there}
use Rattle.gb_call.proofs.LastCalls.{IsCalled}
use Rattle.gb_call_both.proofs.AfterBoth.{frame_if}
use Rattle.gb_call_both.proofs.Alone.{both_alone, results_alone}
use Rattle.gb_adv.specs.Abstract.{AbstractCall, abstract_call, same_abstract}
use Rattle.gb_adv.specs.Call.{before_calls, both_goals, by_calls, by_writes, clash_of_both, on_both, read_after, returns}
use Rattle.gb_adv.specs.Equations.{followed_by, same_arguments, same_owner}
use Rattle.gb_adv.specs.Oracles.{behind, each_keep_both, meeting_both, writes_of}
use Rattle.gb_adv.specs.Returns.{Returns, after_calls, reads_owner, reads_returned}
use Rattle.gb_adv.proofs.AfterReturns.{after_returns_means, returns_typed, with_owner}
use Rattle.gb_adv.proofs.Agreed.{arguments_use, followed_use, same_is}
use Rattle.gb_adv.proofs.AskedTypes.{asked_alike}
use Rattle.gb_adv.proofs.BothCalls.{AreEnds, both_end, one_type, right_meant, same_name}
use Rattle.gb_adv.proofs.Called as called
use Rattle.gb_adv.proofs.EquationsTyped.{arguments_typed, followed_typed, owner_typed}
use Rattle.gb_adv.proofs.Found.{AreOne, IsFoundCall, are_one, call_found}
use Rattle.gb_adv.proofs.KeptForms.{over_both_locals}
use Rattle.gb_adv.proofs.Left.{MeetNone, both_meet_none}
use Rattle.gb_adv.proofs.OracleGoals.{all_parts, each_keep_both_typed}
use Rattle.gb_adv.proofs.SideConditions.{after_alone, after_alone_without, after_covers, kept_alone, kept_alone_without, kept_covers, kept_covers_without, targets_alone}

both_empty : (xs ys : List Var) → xs ++ ys ≡ [] → (xs ≡ []) × (ys ≡ [])
both_empty [] ys e = (refl, e)
both_empty (x ∷ xs) ys e = cc

second_true : (x y : Bool) → y ≡ true → (x || y) ≡ true
second_true true y e = refl
second_true false y e = e

not_true : (b : Bool) → not b ≡ true → b ≡ false
not_true true e = absurd (false≢true e)
not_true false e = refl

module _ (ds : Declarations) (scoped : IsTypedScope (declared ds)) (t : Sequent) (typed : IsTypedSequent (context_of (declared ds)) t) (i : Term) where
  abbrev c : Context
  c = of_sequent (context_of (declared ds)) t typed.frames

  module _ (outer : c ≡ outermost c) (ls rs : List TypedName) (is js : List Instr) (p q : Term) (w : IsGoalOver c ls rs (equiv (body is) (body js) p q)) (kept : IsForm (two c [] []) i) where
    module _ (k l : AbstractCall) (left_found : IsFoundCall ds is k) (right_found : IsFoundCall ds js l) (one : AreOne k.called l.called) (left_few : length k.call.targets < 9) (right_few : length l.call.targets < 9)
        (T U : List Var) (left_known : writes_of ds k.called.oracles ≡ Some T) (right_known : writes_of ds l.called.oracles ≡ Some U) where
      abbrev a : Name
      a = k.called.owner

      abbrev R : Ty
      R = k.called.type.result

      left_meant : meant_by ds k.call.procedure ≡ Any a k.called.oracles
      left_meant = let x = left_found.procedure in x.meant

      left_type : procedure_type ds None k.call.procedure ≡ Some k.called.type
      left_type = let x = left_found.procedure in x.known

      -- both procedures have one type
      types_same : k.called.type ≡ l.called.type
      types_same = one_type ds scoped t typed k.call.procedure l.call.procedure k.called l.called left_found.procedure right_found.procedure one

      right_type : procedure_type ds None l.call.procedure ≡ Some k.called.type
      right_type = (let x = right_found.procedure in x.known) ∙ ap Some (sym types_same)

      finite : IsFinite R
      finite = variable_finite R (type_variables ds k.call.procedure a k.called.oracles left_meant k.called.type left_type scoped).1

      -- all that is the module's own may be read
      owned : IsIn (outermost c) (Some []) (var.Glob a) (ty.Glob a) × IsFinite (ty.Glob a)
      owned = variable_there ds scoped t typed.frames (var.Glob a) (ty.Glob a) owner_type
        where
          owner_type : global_type ds (var.Glob a) ≡ Some (ty.Glob a)
          owner_type =
              let x = abstract_there ds k.call.procedure a k.called.oracles left_meant in
              ap (glob_type a) (ap (abstract_of ds) (sym x.name) ∙ ap as_abstract x.bound)

      left_takes : Take (erased (outermost c)) ls k.call.targets R
      left_takes = called.takes ds scoped t typed outer ls is w.1 k.call left_found.last k.called.type left_type

      right_takes : Take (erased (outermost c)) rs l.call.targets R
      right_takes = called.takes ds scoped t typed outer rs js w.2 l.call right_found.last k.called.type right_type

      left_call : IsCall c ls k.call.targets (Some k.called.type) k.call.arguments
      left_call = called.call_typed ds scoped t typed outer ls is w.1 k.call left_found.last k.called.type left_type

      right_call : IsCall c rs l.call.targets (Some k.called.type) l.call.arguments
      right_call = called.call_typed ds scoped t typed outer rs js w.2 l.call right_found.last k.called.type right_type

      abbrev left_ends : IsCalled c ls is k.call
      left_ends = called.ends ds scoped t typed outer ls is w.1 k.call left_found.last k.called.type left_type

      abbrev right_ends : IsCalled c rs js l.call
      right_ends = called.ends ds scoped t typed outer rs js w.2 l.call right_found.last k.called.type right_type

      module _ (apart : MeetNone (exclusions ds) a i T U) (clear : clash_of_both (exclusions ds) k l i q T U ≡ None) (W V : List TypedVariable)
          (left_types : read_after ds side.Left k i q T ≡ Some W) (right_types : read_after ds side.Right l i q U ≡ Some V) where
        left_are : (variables W ≡ filter (is_left side.Left k.call.targets i q) T) × AreIn (outermost c) (Some []) W
        left_are = typed_with ds scoped t typed (filter (is_left side.Left k.call.targets i q) T) W left_types

        right_are : (variables V ≡ filter (is_left side.Right l.call.targets i q) U) × AreIn (outermost c) (Some []) V
        right_are = typed_with ds scoped t typed (filter (is_left side.Right l.call.targets i q) U) V right_types

        -- what the calls may change, with one type of results
        abbrev o : Returns
        o = record {
          owner = a;
          left = record { side = side.Left; targets = k.call.targets; result = R; globals = W };
          right = record { side = side.Right; targets = l.call.targets; result = R; globals = V };
        }

        returns_are : returns k W l V ≡ o
        returns_are = λ z. record {
          owner = a;
          left = record { side = side.Left; targets = k.call.targets; result = R; globals = W };
          right = record { side = side.Right; targets = l.call.targets; result = (let u = sym types_same z in u.result); globals = V };
        }

        abbrev b : Bool
        b = reads_returned o i q

        abbrev d : Bool
        d = reads_owner a q

        kept_form : IsForm (reframed (outermost c) None (Some (frame_if b R)) (Some [])) i
        kept_form = subst (λ e. IsForm (with_sides e (Some (frame_if b R)) (Some [])) i) outer (over_both_locals c i kept (frame_if b R) [])

        end_form : IsForm (reframed (outermost c) None (Some ls) (Some rs)) q
        end_form = subst (λ e. IsForm (with_sides e (Some ls) (Some rs)) q) outer w.4

        after_form : IsForm (reframed (outermost c) None (Some ls) (Some rs)) (after_calls o i q)
        after_form = returns_typed c ls rs R W V left_are.1 right_are.1 finite k.call.targets l.call.targets left_takes right_takes left_few right_few a owned i q b d kept_form end_form

        before_form : IsForm (two c ls rs) (before_calls k W l V i q)
        before_form =
            and_typed (two c ls rs) _ _
            (and_typed (two c ls rs) _ _
            (followed_typed c (Some ls) (Some rs) i (over_both_locals c i kept ls rs) (same_arguments k.call.arguments l.call.arguments)
            (arguments_typed c ls rs k.called.type.params k.call.arguments l.call.arguments left_call.0 right_call.0))
            (owner_typed c a owned.0.1 ls rs))
            (subst (λ e. IsForm (with_sides e (Some ls) (Some rs)) (after_calls (returns k W l V) i q)) (sym outer)
            (subst (λ e. IsForm (reframed (outermost c) None (Some ls) (Some rs)) (after_calls e i q)) (sym returns_are) after_form))

        no_clash : (clashing_after (exclusions ds) side.Left k.call.targets (var.Glob a ∷ T) i q ≡ []) × (clashing_after (exclusions ds) side.Right l.call.targets (var.Glob a ∷ U) i q ≡ [])
        no_clash =
            let x = both_empty (clashing_after (exclusions ds) side.Left k.call.targets (var.Glob a ∷ T) i q) (clashing_after (exclusions ds) side.Right l.call.targets (var.Glob l.called.owner ∷ U) i q)
            (nothing_least _ clear) in
            (x.0, subst (λ z. clashing_after (exclusions ds) side.Right l.call.targets (var.Glob z ∷ U) i q ≡ []) (sym one.owner) x.1)

        -- where a result doesn't occur, neither form reads it
        unread : b ≡ false → (reads_result o.left i q ≡ false) × (reads_result o.right i q ≡ false)
        unread h = or_parts (reads_result o.left i q) (reads_result o.right i q) h

        left_unread : b ≡ false → (is_read side.Left i (var.Local result_name) ≡ false) × (list_any (is_read side.Left q) k.call.targets ≡ false)
        left_unread h = or_parts (is_read side.Left i (var.Local result_name)) (list_any (is_read side.Left q) k.call.targets) (unread h).0

        right_unread : b ≡ false → (is_read side.Right i (var.Local result_name) ≡ false) × (list_any (is_read side.Right q) l.call.targets ≡ false)
        right_unread h = or_parts (is_read side.Right i (var.Local result_name)) (list_any (is_read side.Right q) l.call.targets) (unread h).1

        left_after : IsSpared (exclusions ds) side.Left q (k.call.targets ++ var.Glob a ∷ T) (unread_after side.Left tt k.call.targets (var.Glob a ∷ T) i q b)
        left_after = after_spared side.Left tt k.call.targets (var.Glob a ∷ T) i q b (exclusions ds) no_clash.0 _ end_form.typed (λ f. (left_unread f).1)

        right_after : IsSpared (exclusions ds) side.Right q (l.call.targets ++ var.Glob a ∷ U) (unread_after side.Right tt l.call.targets (var.Glob a ∷ U) i q b)
        right_after = after_spared side.Right tt l.call.targets (var.Glob a ∷ U) i q b (exclusions ds) no_clash.1 _ end_form.typed (λ f. (right_unread f).1)

        left_kept : IsSpared (exclusions ds) side.Left i (var.Glob a ∷ T) (unread_said side.Left tt k.call.targets (var.Glob a ∷ T) i q b)
        left_kept = said_spared side.Left tt k.call.targets (var.Glob a ∷ T) i q b (exclusions ds) no_clash.0 _ kept_form.typed (λ f. (left_unread f).0)

        right_kept : IsSpared (exclusions ds) side.Right i (var.Glob a ∷ U) (unread_said side.Right tt l.call.targets (var.Glob a ∷ U) i q b)
        right_kept = said_spared side.Right tt l.call.targets (var.Glob a ∷ U) i q b (exclusions ds) no_clash.1 _ kept_form.typed (λ f. (right_unread f).0)

        -- the variables that the conditions leave; what is kept reads none on the right that clashes with what is the module's own
        abbrev P : Readable
        P r z = let x = left_after in let y = right_after in x.readable r z && y.readable r z

        abbrev Q : Readable
        Q r z = (let x = left_kept in let y = right_kept in x.readable r z && y.readable r z) && spared_variables side.Right tt (clashes (exclusions ds) (var.Glob a)) r z

        end_within : IsWithin (reading P) q
        end_within =
            let x = left_after in
            let y = right_after in
            subst (λ (K : Uses). IsWithin K q) (λ z u. in_both x.readable y.readable u z) (within_both (reading x.readable) (reading y.readable) q x.within y.within)

        kept_within : IsWithin (reading Q) i
        kept_within =
            let x = left_kept in
            let y = right_kept in
            let both : Readable = λ r z. x.readable r z && y.readable r z in
            let off : Readable = spared_variables side.Right tt (clashes (exclusions ds) (var.Glob a)) in
            subst (λ (K : Uses). IsWithin K i) (λ z u. in_both both off u z)
            (within_both (reading both) (reading off) i
            (subst (λ (K : Uses). IsWithin K i) (λ z u. in_both x.readable y.readable u z) (within_both (reading x.readable) (reading y.readable) i x.within y.within))
            (spared_within side.Right tt (clashes (exclusions ds) (var.Glob a)) _ i kept_form.typed apart.right_read))

        off_owner : (y : Var) → Q side.Right y ≡ true → clashes (exclusions ds) (var.Glob a) y ≡ false
        off_owner y f =
            not_true (clashes (exclusions ds) (var.Glob a) y)
            (subst (λ z. not (z && clashes (exclusions ds) (var.Glob a) y) ≡ true) ((side_eq-Decides side.Right side.Right).1 refl)
            (and_parts _ (spared_variables side.Right tt (clashes (exclusions ds) (var.Glob a)) side.Right y) f).1)

        left_occurs : is_read side.Left q (var.Glob a) ≡ true → d ≡ true
        left_occurs e = ap (λ z. z || is_read side.Right q (var.Glob a)) e

        right_occurs : is_read side.Right q (var.Glob a) ≡ true → d ≡ true
        right_occurs e = second_true (is_read side.Left q (var.Glob a)) (is_read side.Right q (var.Glob a)) e

        left_read : (y : Var) → P side.Left y ≡ true → (let x = left_after in x.readable side.Left y) ≡ true
        left_read y f = (and_parts _ _ f).0

        right_read : (y : Var) → P side.Right y ≡ true → (let x = right_after in x.readable side.Right y) ≡ true
        right_read y f = (and_parts _ _ f).1

        left_kept_read : (y : Var) → Q side.Left y ≡ true → (let x = left_kept in x.readable side.Left y) ≡ true
        left_kept_read y f = (and_parts _ _ (and_parts _ _ f).0).0

        right_kept_read : (y : Var) → Q side.Right y ≡ true → (let x = right_kept in x.readable side.Right y) ≡ true
        right_kept_read y f = (and_parts _ _ (and_parts _ _ f).0).1

        module _ (g : Setting) (fits : IsSettingOf c g) (over : IsSettingOver (declared ds) g) (j : Judge) (fair : IsFair g j) (v : State) (fit : IsStateOf c g v) where
          fits_there : IsSettingOf (outermost c) g
          fits_there = subst (λ e. IsSettingOf e g) outer fits

          state_there : IsStateOf (outermost c) g v
          state_there = subst (λ e. IsStateOf e g v) outer fit

          off : IsKeptOff (exclusions ds) g
          off = kept_off ds scoped g over

          -- what holds before the calls leads from where the procedures end to what is to hold after the calls
          module _ (m n h e : Memory) (x : AreEnds g j v i k.called T U m n h e) (holds : IsTrueUnder g j (after_calls o i q) (between v m n)) where
            results_same : result_in h ≡ result_in e
            results_same = ap (λ f. result_in (record { globals = h.globals; frame = f })) x.frames

            left_own : AllByRecursion (λ z. IsAlone g z.variable (Q side.Left)) (with_owner d a W)
            left_own = kept_alone side.Left tt k.call.targets T a i q W left_are.0 b d (exclusions ds) apart.left_read left_occurs g off (Q side.Left) left_kept left_kept_read

            right_own : AllByRecursion (λ z. IsAlone g z.variable (Q side.Right)) V
            right_own = kept_alone_without side.Right tt l.call.targets U a i q V right_are.0 b d (exclusions ds) apart.right_read right_occurs g off (Q side.Right) right_kept right_kept_read

            left_alone : AllByRecursion (λ z. IsAlone g z.variable (P side.Left)) (with_owner d a W)
            left_alone = after_alone side.Left tt k.call.targets T a i q W left_are.0 b d (exclusions ds) apart.left_read left_occurs g off (P side.Left) left_after left_read

            right_alone : AllByRecursion (λ z. IsAlone g z.variable (P side.Right)) (with_owner d a V)
            right_alone = after_alone side.Right tt l.call.targets U a i q V right_are.0 b d (exclusions ds) apart.right_read right_occurs g off (P side.Right) right_after right_read

            right_others : AllByRecursion (λ z. IsAlone g z.variable (P side.Right)) V
            right_others = after_alone_without side.Right tt l.call.targets U a i q V right_are.0 b d (exclusions ds) apart.right_read right_occurs g off (P side.Right) right_after right_read

            ends : IsTrueUnder g j q (between v (returned g k.call.targets m h) (returned g l.call.targets n e))
            ends =
                subst (λ z. IsTrueUnder g j q (between v (returned g k.call.targets m h) (assigned g.types (record { globals = e.globals; frame = n.frame }) l.call.targets z))) results_same
                (after_returns_means c ls rs R W V left_are.1 right_are.1 finite k.call.targets l.call.targets left_takes right_takes left_few right_few a owned
                g fits_there j fair v state_there m n h e (var.Glob a ∷ T) (var.Glob a ∷ U) x.left.1 x.right.1 (result_in h) x.left.0.0 x.left.0.1 (x.right.0.1 ∙ sym results_same) x.own
                i q b d kept_form end_form Q kept_within
                (results_alone g Q b false k.call.targets l.call.targets R R (with_owner d a W) V (in_memory side.Left (with_owner d a W) ++ in_memory side.Right V) (both_alone g Q (with_owner d a W) V left_own right_own))
                (kept_covers side.Left tt k.call.targets T a i q W left_are.0 b d (exclusions ds) apart.left_read left_occurs g off (Q side.Left) left_kept left_kept_read)
                (kept_covers_without side.Right tt l.call.targets U a i q V right_are.0 b d (exclusions ds) apart.right_read right_occurs g off (Q side.Right) right_kept right_kept_read off_owner)
                left_own right_own P end_within left_alone right_alone
                (targets_alone side.Left tt k.call.targets T a i q W left_are.0 b d (exclusions ds) apart.left_read left_occurs g off (P side.Left) left_after left_read)
                (targets_alone side.Right tt l.call.targets U a i q V right_are.0 b d (exclusions ds) apart.right_read right_occurs g off (P side.Right) right_after right_read)
                (both_alone g P (with_owner d a W) V left_alone right_others)
                (after_covers side.Left tt k.call.targets T a i q W left_are.0 b d (exclusions ds) apart.left_read left_occurs g off (P side.Left) left_after left_read)
                (after_covers side.Right tt l.call.targets U a i q V right_are.0 b d (exclusions ds) apart.right_read right_occurs g off (P side.Right) right_after right_read)
                holds x.kept)

          abbrev A : Routine
          A = called.routine_in ds scoped t typed outer ls is w.1 k.call left_found.last k.called.type left_type g fits

          abbrev B : Routine
          B = called.routine_in ds scoped t typed outer rs js w.2 l.call right_found.last k.called.type right_type g fits

          abbrev left_values : Memory → List Value
          left_values m = called.argument_values ds scoped t typed outer ls is w.1 k.call left_found.last k.called.type left_type g v m

          abbrev right_values : Memory → List Value
          right_values n = called.argument_values ds scoped t typed outer rs js w.2 l.call right_found.last k.called.type right_type g v n

          -- where the goals of the oracles stand
          module _ (Hs : List Goal) (shown : each_keep_both ds i k.called.oracles l.called.oracles ≡ given Hs) (stand : AllByRecursion (Stands g j v) Hs) (m n : Memory)
              (holds : IsTrueUnder g j (before_calls k W l V i q) (between v m n)) where
            whole : IsTrueUnder g j (and_form (followed_by i (same_arguments k.call.arguments l.call.arguments)) (same_owner a)) (between v m n) × IsTrueUnder g j (after_calls (returns k W l V) i q) (between v m n)
            whole = let z = and_use g j _ _ (between v m n) holds in (z.0, z.1)

            alike : IsTrueUnder g j (followed_by i (same_arguments k.call.arguments l.call.arguments)) (between v m n) × IsTrueUnder g j (same_owner a) (between v m n)
            alike = let z = and_use g j (followed_by i (same_arguments k.call.arguments l.call.arguments)) (same_owner a) (between v m n) whole.0 in (z.0, z.1)

            arguments_same : left_values m ≡ right_values n
            arguments_same =
                arguments_use c ls rs g fits j v m n k.called.type.params k.call.arguments l.call.arguments left_call.0 right_call.0
                (followed_use g j v m n i (same_arguments k.call.arguments l.call.arguments) alike.0).1

            coupled : Coupling (AreEnds g j v i k.called T U m n) (outcomes g A (left_values m) m.globals) (routine_denominator g A) (outcomes g B (right_values n) n.globals) (routine_denominator g B)
            coupled =
                subst (λ us. Coupling (AreEnds g j v i k.called T U m n) (outcomes g A (left_values m) m.globals) (routine_denominator g A) (outcomes g B us n.globals) (routine_denominator g B)) arguments_same
                (both_end ds scoped t typed k.call.procedure l.call.procedure k.called l.called left_found.procedure right_found.procedure one T U left_known right_known i apart
                (subst (λ e. IsForm (with_sides e (Some []) (Some [])) i) outer kept) g fits fits_there over j fair v Hs shown stand A B
                (called.is_routine ds scoped t typed outer ls is w.1 k.call left_found.last k.called.type left_type g fits)
                (called.is_routine ds scoped t typed outer rs js w.2 l.call right_found.last k.called.type right_type g fits)
                (called.of_type ds scoped t typed outer ls is w.1 k.call left_found.last k.called.type left_type g fits)
                (called.of_type ds scoped t typed outer rs js w.2 l.call right_found.last k.called.type right_type g fits)
                (left_values m) m n ((same_is g j v m n (var.Glob a) (ty.Glob a)).0 alike.1) (followed_use g j v m n i (same_arguments k.call.arguments l.call.arguments) alike.0).0)

            -- so after the calls there is a coupling
            returns_coupled : Coupling (λ y z. IsTrueUnder g j q (between v y z)) (run g v ((let x = left_ends in x.last) ∷ []) m) (denominator g ((let x = left_ends in x.last) ∷ []))
                (run g v ((let x = right_ends in x.last) ∷ []) n) (denominator g ((let x = right_ends in x.last) ∷ []))
            returns_coupled =
                subst (λ z. z) (λ x. Coupling (λ y z. IsTrueUnder g j q (between v y z))
                (sym (called.call_run ds scoped t typed outer ls is w.1 k.call left_found.last k.called.type left_type g fits v m) x)
                (sym (called.call_denominator ds scoped t typed outer ls is w.1 k.call left_found.last k.called.type left_type g fits) x)
                (sym (called.call_run ds scoped t typed outer rs js w.2 l.call right_found.last k.called.type right_type g fits v n) x)
                (sym (called.call_denominator ds scoped t typed outer rs js w.2 l.call right_found.last k.called.type right_type g fits) x))
                (coupling_dmap {Q = AreEnds g j v i k.called T U m n} (λ y z. IsTrueUnder g j q (between v y z)) (returned g k.call.targets m) (returned g l.call.targets n)
                (λ h e f. ends m n h e f (subst (λ z. IsTrueUnder g j (after_calls z i q) (between v m n)) returns_are whole.1)) coupled)

        module _ (Hs : List Goal) (shown : each_keep_both ds i k.called.oracles l.called.oracles ≡ given Hs) where
          abbrev goals : List Goal
          goals = Hs ++ equiv (body k.call.before) (body l.call.before) p (before_calls k W l V i q) ∷ []

          goals_typed : AllByRecursion (IsTypedGoal c) goals
          goals_typed =
              let x = left_ends in
              let y = right_ends in
              all_append (IsTypedGoal c) Hs (equiv (body k.call.before) (body l.call.before) p (before_calls k W l V i q) ∷ [])
              (each_keep_both_typed ds c (called.knows ds scoped t typed) i kept k.called.oracles l.called.oracles
              (asked_alike ds scoped k.call.procedure l.call.procedure a k.called.oracles l.called.oracles left_meant
              (right_meant ds scoped t typed k.call.procedure l.call.procedure k.called l.called left_found.procedure right_found.procedure one)
              (same_name ds scoped t typed k.call.procedure l.call.procedure k.called l.called left_found.procedure right_found.procedure one)) Hs shown)
              ((ls, rs, (tt, x.rest, y.rest, w.3, before_form)), tt)

          goals_imply : ImpliesIn (declared ds) c goals (equiv (body is) (body js) p q)
          goals_imply g fits over j fair v fit h m n x =
              let f = left_ends in
              let z = right_ends in
              let y = all_parts (Stands g j v) Hs (equiv (body k.call.before) (body l.call.before) p (before_calls k W l V i q) ∷ []) h in
              subst (λ b. b) (λ u. Coupling (λ x z. IsTrueUnder g j q (between v x z)) (run g v (sym f.shape u) m) (denominator g (sym f.shape u)) (run g v (sym z.shape u) n) (denominator g (sym z.shape u)))
              (runs_sequence g v k.call.before l.call.before (f.last ∷ []) (z.last ∷ []) (λ x z. IsTrueUnder g j (before_calls k W l V i q) (between v x z)) (λ x z. IsTrueUnder g j q (between v x z)) m n
              (y.1.0 m n x) (λ x z r. returns_coupled g fits over j fair v fit Hs shown y.0 x z r))

    -- the row, step by step
    module _ (Gs : List Goal) where
      abbrev Result : Type 0
      Result = AllByRecursion (IsTypedGoal c) Gs × ImpliesIn (declared ds) c Gs (equiv (body is) (body js) p q)

      module _ (k l : AbstractCall) (left_found : IsFoundCall ds is k) (right_found : IsFoundCall ds js l) where
        module _ (one : AreOne k.called l.called) (left_few : length k.call.targets < 9) (right_few : length l.call.targets < 9) where
          module _ (T U : List Var) (left_known : writes_of ds k.called.oracles ≡ Some T) (right_known : writes_of ds l.called.oracles ≡ Some U) where
            module _ (apart : MeetNone (exclusions ds) k.called.owner i T U) (clear : clash_of_both (exclusions ds) k l i q T U ≡ None) where
              by_oracles : (W V : List TypedVariable) → read_after ds side.Left k i q T ≡ Some W → read_after ds side.Right l i q U ≡ Some V →
                  (x : Answer (List Goal)) → each_keep_both ds i k.called.oracles l.called.oracles ≡ x →
                  behind x (equiv (body k.call.before) (body l.call.before) p (before_calls k W l V i q) ∷ []) ≡ given Gs → Result
              by_oracles W V f r (refused why place) y z = refused_at why place Gs z
              by_oracles W V f r (given Hs) y z =
                  sound_given_in (declared ds) c (equiv (body is) (body js) p q) (Hs ++ equiv (body k.call.before) (body l.call.before) p (before_calls k W l V i q) ∷ []) Gs (
                    goals_typed k l left_found right_found one left_few right_few T U left_known right_known apart clear W V f r Hs y,
                    goals_imply k l left_found right_found one left_few right_few T U left_known right_known apart clear W V f r Hs y,
                  ) z

              by_types : (f : Option (List TypedVariable)) → read_after ds side.Left k i q T ≡ f → (r : Option (List TypedVariable)) → read_after ds side.Right l i q U ≡ r →
                  both_goals ds k l i p q f r ≡ given Gs → Result
              by_types None f r h z = refused_given Shape Gs z
              by_types (Some W) f None h z = refused_given Shape Gs z
              by_types (Some W) f (Some V) h z = by_oracles W V f h (each_keep_both ds i k.called.oracles l.called.oracles) refl z

            abbrev rest : Answer (List Goal)
            rest = both_goals ds k l i p q (read_after ds side.Left k i q T) (read_after ds side.Right l i q U)

            by_clash : MeetNone (exclusions ds) k.called.owner i T U → (x : Option Var) → clash_of_both (exclusions ds) k l i q T U ≡ x → unless_clash x rest ≡ given Gs → Result
            by_clash apart (Some y) f z = refused_given (SideCondition y) Gs z
            by_clash apart None f z = by_types apart f (read_after ds side.Left k i q T) refl (read_after ds side.Right l i q U) refl z

            by_meeting : (x : Option Var) → meeting_both (exclusions ds) k.called.owner i T U ≡ x → unless_clash x (unless_clash (clash_of_both (exclusions ds) k l i q T U) rest) ≡ given Gs → Result
            by_meeting (Some y) f z = refused_given (SideCondition y) Gs z
            by_meeting None f z = by_clash (both_meet_none (exclusions ds) k.called.owner i T U f) (clash_of_both (exclusions ds) k l i q T U) refl z

          by_written : (f : Option (List Var)) → writes_of ds k.called.oracles ≡ f → (r : Option (List Var)) → writes_of ds l.called.oracles ≡ r → by_writes ds k l i p q f r ≡ given Gs → Result
          by_written None f r h z = refused_given Shape Gs z
          by_written (Some T) f None h z = refused_given Shape Gs z
          by_written (Some T) f (Some U) h z = by_meeting T U f h (meeting_both (exclusions ds) k.called.owner i T U) refl z

        abbrev writing : Answer (List Goal)
        writing = by_writes ds k l i p q (writes_of ds k.called.oracles) (writes_of ds l.called.oracles)

        by_many : AreOne k.called l.called → (x : Bool) → nat_lt (length k.call.targets) 9 ≡ x → (y : Bool) → nat_lt (length l.call.targets) 9 ≡ y →
            (if x then (if y then writing else refusing Shape) else refusing Shape) ≡ given Gs → Result
        by_many one true f true r z = by_written one (few k.call.targets f) (few l.call.targets r) (writes_of ds k.called.oracles) refl (writes_of ds l.called.oracles) refl z
        by_many one true f false r z = refused_given Shape Gs z
        by_many one false f y r z = refused_given Shape Gs z

        by_names : (x : Bool) → same_abstract k.called l.called ≡ x → (if x then if_few k.call.targets (if_few l.call.targets writing) else refusing Shape) ≡ given Gs → Result
        by_names true f z = by_many (are_one k.called l.called f) (nat_lt (length k.call.targets) 9) refl (nat_lt (length l.call.targets) 9) refl z
        by_names false f z = refused_given Shape Gs z

        by_calls_sound : by_calls ds k l i p q ≡ given Gs → Result
        by_calls_sound z = by_names (same_abstract k.called l.called) refl z

      by_found : (f : Option AbstractCall) → abstract_call ds (last_call is) ≡ f → (r : Option AbstractCall) → abstract_call ds (last_call js) ≡ r → on_both ds i p q f r ≡ given Gs → Result
      by_found None f r h z = refused_given Shape Gs z
      by_found (Some k) f None h z = refused_given Shape Gs z
      by_found (Some k) f (Some l) h z = by_calls_sound k l (call_found ds is k f) (call_found ds js l h) z

      -- what the row gives is typed, and implies the goal
      pub both_sound : on_both ds i p q (abstract_call ds (last_call is)) (abstract_call ds (last_call js)) ≡ given Gs → Result
      both_sound z = by_found (abstract_call ds (last_call is)) refl (abstract_call ds (last_call js)) refl z
