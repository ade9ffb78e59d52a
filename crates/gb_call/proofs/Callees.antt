-- The called procedure: what a typed call of it is, and its outcomes.
use Rattle.std.proofs.Common.{◌≡◌, ◌<◌, Bool, true, false, not, ◌&&◌, List, [], ◌∷◌, length, map, Option, Some, None, refl, ap, sym, ◌∙◌, subst, nat_lt}
use Rattle.std.proofs.Math.Nat.{mul-one}
use Rattle.std.proofs.lemmas.Bool.{ltb-true}
use Rattle.std.proofs.lemmas.Option.{same_Some, none-some}
use Rattle.gb_core.specs.declared.ty.Ty.{Ty}
use Rattle.gb_core.specs.declared.value.Value.{Value}
use Rattle.gb_core.specs.declared.value.Value.TheVariants.{Many}
use Rattle.gb_core.specs.declared.var.Var.{Var}
use Rattle.gb_core.specs.declared.var.Var.TheVariants as var
use Rattle.gb_dist.specs.WeightedList.{WeightedList, Every, dmap}
use Rattle.gb_dist.proofs.Entries.{Every-dmap, Every-weaken}
use Rattle.gb_dist.proofs.Monad.{bind-unit_right}
use Rattle.gb_terms.specs.declared.decl.Proc.{Proc}
use Rattle.gb_terms.specs.declared.decl.TypedName.{TypedName}
use Rattle.gb_terms.specs.declared.module.ProcRef.{ProcRef}
use Rattle.gb_terms.specs.declared.term.Instr.{Instr}
use Rattle.gb_terms.specs.Equal.{var_eq}
use Rattle.gb_meaning.specs.Commands.{called, statements}
use Rattle.gb_meaning.specs.Judgments.{IsSoundIfThere, from_frame}
use Rattle.gb_meaning.specs.Memory.{Memory, outcome, read, result_in, result_name, value_or}
use Rattle.gb_meaning.specs.Names.{Name, Path, Map, empty, get}
use Rattle.gb_meaning.specs.Program.{Routine}
use Rattle.gb_meaning.specs.Program.Program.{done}
use Rattle.gb_meaning.specs.Program.Routine.{routine}
use Rattle.gb_meaning.specs.Runs.{out, outcomes, returned, routine_denominator, run_denominator, valued}
use Rattle.gb_meaning.specs.Setting.{Setting}
use Rattle.gb_meaning.specs.Sound.{IsSoundRoutine}
use Rattle.gb_meaning.specs.State.{State, closed, inside}
use Rattle.gb_meaning.specs.Values.{fit, has}
use Rattle.gb_meaning.specs.Written.{type_of}
use Rattle.gb_meaning.proofs.Maps.{get-set_same}
use Rattle.gb_meaning.proofs.Numberings.{fit_has}
use Rattle.gb_laws.proofs.Leaves.{routine_leaves}
use Rattle.gb_laws.specs.Cells.Key.{global, local}
use Rattle.gb_laws.specs.Writes.{Spares, UnwrittenBy}
use Rattle.gb_laws.specs.Finite.{IsFinite}
use Rattle.gb_laws.specs.Programs.{Take}
use Rattle.gb_meaning.specs.Declared.{declared}
use Rattle.gb_goal.specs.declared.sequent.Sequent.{Sequent}
use Rattle.gb_goal.specs.Scope.{Declarations, procedure_of}
use Rattle.gb_typing.specs.Context.{Context, erased, of_program}
use Rattle.gb_typing.specs.Context as context
use Rattle.gb_typing.specs.Fits.{IsSettingOf}
use Rattle.gb_typing.specs.Programs.{IsBody, IsCall, IsProcedure, locals_of, type_of_procedure}
use Rattle.gb_typing.specs.Scopes.{context_of, IsTypedScope}
use Rattle.gb_typing.specs.Sequents.{of_sequent, IsTypedSequent}
use Rattle.gb_typing.specs.Puts.{clash}
use Rattle.gb_typing.specs.Typing.{IsThere}
use Rattle.gb_typing.proofs.Fitting.{fits_program, state_inside}
use Rattle.gb_typing.proofs.Sound.{procedures_sound}
use Rattle.gb_typing.proofs.LinkedProcedures.{linked_there}
use Rattle.gb_typing.proofs.Located.{IsTypedThere, typed_there}
use Rattle.gb_typing.proofs.Substituted.{term_has}
use Rattle.gb_typing.proofs.Variables.{variable_finite}
use Rattle.gb_typing.specs.Meaning.{denominator, run}
use Rattle.gb_typing.specs.Rules.{IsSettingOver, outermost}
use Rattle.gb_typing.proofs.ClashFree.{alone}
use Rattle.gb_prog.specs.Calls.{called_from}
use Rattle.gb_prog.specs.Writes.{DifferIn, TypedVariable, AreIn, variables}
use Rattle.gb_prog.proofs.Calls.{arguments_typed as values_typed, called_outcomes}
use Rattle.gb_mods.specs.Written.{written}
use Rattle.gb_prog.proofs.Meanings.{means_there}
use Rattle.gb_call.specs.LastCall.{LastCall, last_call}
use Rattle.gb_call.specs.Written.{global_type, typed_before, with_types}
use Rattle.gb_call.proofs.Globals.{variable_there}
use Rattle.gb_call.proofs.LastCalls.{IsCalled, called_typed}
use Rattle.gb_call.proofs.Unwritten.{procedure_left}

-- lists with several properties

every_entry : {A : Type 0} (l : WeightedList A) → Every (λ a. Unit {0}) l
every_entry [] = tt
every_entry (e ∷ l) = (tt, every_entry l)

pub every_both : {A : Type 0} (P Q : A → Type 0) (l : WeightedList A) → Every P l → Every Q l → Every (λ a. P a × Q a) l
every_both P Q [] h k = tt
every_both P Q (e ∷ l) h k = ((h.0, k.0), every_both P Q l h.1 k.1)

-- The result of an outcome is of its type.
abbrev pub IsResult : Setting → Ty → Memory → Type 0
IsResult g R n = (has g.types R (result_in n) ≡ true) × (read g.types n (var.Local result_name) R ≡ result_in n)

module _ (c : Context) (g : Setting) (fits : IsSettingOf c g) (a : Proc) (w : IsProcedure c a) where
  abbrev pub callee_routine : Routine
  callee_routine = routine a.params a.locals (statements g a.body.list) a.value

  returned_has : (n : Memory) → has g.types a.result (valued g closed a.value n) ≡ true
  returned_has n =
      let x = w.value in
      let f : IsFinite (type_of a.value) = subst IsFinite (sym w.returned) (variable_finite a.result w.result) in
      subst (λ u. has g.types u (valued g closed a.value n) ≡ true) w.returned
      (term_has (of_program c (locals_of a)) g (fits_program c g fits (locals_of a)) a.value x.typed f (inside closed n) (state_inside c g (locals_of a) closed n))

  outcome_result : (n : Memory) → IsResult g a.result (outcome n.globals (valued g closed a.value n))
  outcome_result n =
      let v : Value = valued g closed a.value n in
      let k = get-set_same empty (result_name ∷ []) v in
      let r : result_in (outcome n.globals v) ≡ v = ap (λ o. value_or o (Many [])) k in
      (ap (has g.types a.result) r ∙ returned_has n, ap (fit g.types a.result) k ∙ fit_has g.types a.result v (returned_has n) ∙ sym r)

  every_result : (vs : List Value) (globals : Map) → Every (IsResult g a.result) (outcomes g callee_routine vs globals)
  every_result vs globals = Every-dmap {P = λ n. Unit {0}} (IsResult g a.result) (λ n. outcome n.globals (valued g closed a.value n)) _ (λ n u. outcome_result n) (every_entry _)

-- The globals of outcomes differ from those before the call where the procedure writes.
module _ (g : Setting) (r : Routine) (U : List Var) (left : (x : Path) → Spares g.types U (global x) → UnwrittenBy g r (global x)) (vs : List Value) (m : Memory) where
  abbrev Kept : Memory → Type 0
  Kept n = (x : Path) → Spares g.types U (global x) → get n.globals x ≡ get m.globals x

  each_kept : (l : WeightedList Memory) → ((x : Path) → Spares g.types U (global x) → Every (λ n. get n.globals x ≡ get m.globals x) l) → Every Kept l
  each_kept [] h = tt
  each_kept (e ∷ l) h = ((λ x s. (h x s).0), each_kept l (λ x s. (h x s).1))

  pub every_differs : Every (λ n. DifferIn g.types U m (record { globals = n.globals; frame = m.frame })) (outcomes g r vs m.globals)
  every_differs = Every-weaken {P = Kept} (outcomes g r vs m.globals) (λ n k. by_place n k) (each_kept (outcomes g r vs m.globals) (λ x s. routine_leaves g r x (left x s) vs m.globals))
    where
      by_place : (n : Memory) → Kept n → DifferIn g.types U m (record { globals = n.globals; frame = m.frame })
      by_place n k (global x) s = k x s
      by_place n k (local x) s = refl

never : (b : Bool) → not (not b && false) ≡ true
never true = refl
never false = refl

never_both : (b : Bool) → not (not b && b) ≡ true
never_both true = refl
never_both false = refl

-- a local clashes with no other variable
pub alone_local : (g : Setting) (x : Name) (y : Var) → (var.Local x ≡ y → ⊥) → clash g (var.Local x) y ≡ false
alone_local g x (var.Local y) n = alone g [] tt (var.Local x) (var.Local y) (never_both (var_eq (var.Local x) (var.Local y))) n
alone_local g x (var.Global m y) n = alone g [] tt (var.Local x) (var.Global m y) (never (var_eq (var.Local x) (var.Global m y))) n
alone_local g x (var.Glob a) n = alone g [] tt (var.Local x) (var.Glob a) (never (var_eq (var.Local x) (var.Glob a))) n

pub few : (xs : List Var) → nat_lt (length xs) 9 ≡ true → length xs < 9
few xs h = ltb-true (length xs) 9 h

module _ (ds : Declarations) (scoped : IsTypedScope (declared ds)) (t : Sequent) (typed : IsTypedSequent (context_of (declared ds)) t) where
  abbrev pub c : Context
  c = of_sequent (context_of (declared ds)) t typed.frames

  pub there : (r : ProcRef) (a : Proc) → procedure_of ds r ≡ Some a → IsTypedThere c r a
  there r a e = typed_there ds scoped t typed.modules typed.frames r a e

  linked : (g : Setting) → IsSettingOver (declared ds) g → (r : ProcRef) (a : Proc) → procedure_of ds r ≡ Some a → g.procedure r ≡ Some (routine a.params a.locals (statements g a.body.list) a.value)
  linked g over r a e =
      subst (λ h. h.procedure r ≡ Some (routine a.params a.locals (statements h a.body.list) a.value)) (sym over.meant)
      (linked_there ds scoped over.interpretation over.chosen r a e)

  -- globals with their types stand in the context
  pub typed_with : (xs : List Var) (W : List TypedVariable) → with_types ds xs ≡ Some W → (variables W ≡ xs) × AreIn (outermost c) (Some []) W
  typed_with [] W e = subst (λ V. (variables V ≡ []) × AreIn (outermost c) (Some []) V) (same_Some [] W e) (refl, tt)
  typed_with (x ∷ xs) W e = by_type (λ V k. typed_with xs V k) (global_type ds x) refl (with_types ds xs) refl e
    where
      by_type : ((V : List TypedVariable) → with_types ds xs ≡ Some V → (variables V ≡ xs) × AreIn (outermost c) (Some []) V) →
          (o : Option Ty) → global_type ds x ≡ o → (r : Option (List TypedVariable)) → with_types ds xs ≡ r → typed_before x o r ≡ Some W →
          (variables W ≡ x ∷ xs) × AreIn (outermost c) (Some []) W
      by_type behind None d r k e = absurd (none-some W e)
      by_type behind (Some u) d None k e = absurd (none-some W e)
      by_type behind (Some u) d (Some V) k e =
          let rest = behind V k in
          subst (λ V. (variables V ≡ x ∷ xs) × AreIn (outermost c) (Some []) V) (same_Some (record { variable = x; ty = u } ∷ V) W e)
          (ap (λ l. x ∷ l) rest.0, (variable_there ds scoped t typed.frames x u d, rest.1))

  -- a call that ends a body
  module _ (outer : c ≡ outermost c) (ls : List TypedName) (is : List Instr) (typed_body : IsBody c ls is) (k : LastCall) (last : last_call is ≡ Some k)
      (a : Proc) (e : procedure_of ds k.procedure ≡ Some a) (U : List Var) (u : written ds k.procedure ≡ Some U) where
    abbrev target : IsTypedThere c k.procedure a
    target = there k.procedure a e

    pub procedure_typed : IsProcedure c a
    procedure_typed = let x = target in x.typed

    pub procedure_there : IsThere (context.procedure c k.procedure)
    procedure_there = let x = target in subst IsThere (sym x.type) tt

    pub ends : IsCalled c ls is k
    ends = called_typed c ls is k typed_body last

    pub call_typed : IsCall c ls k.targets (Some (type_of_procedure a)) k.arguments
    call_typed = let x = target in let l = ends in subst (λ o. IsCall c ls k.targets o k.arguments) x.type l.call

    pub finite_result : IsFinite a.result
    finite_result = let x = procedure_typed in variable_finite a.result x.result

    pub takes : Take (erased (outermost c)) ls k.targets a.result
    takes = subst (λ d. Take (erased d) ls k.targets a.result) outer call_typed.1

    abbrev pub routine_in : (g : Setting) → IsSettingOf c g → Routine
    routine_in g fits = callee_routine c g fits a procedure_typed

    abbrev pub argument_values : Setting → State → Memory → List Value
    argument_values g v n = map (λ e. valued g v e n) k.arguments

    module _ (g : Setting) (fits : IsSettingOf c g) (over : IsSettingOver (declared ds) g) where
      pub is_routine : g.procedure k.procedure ≡ Some (routine_in g fits)
      is_routine = linked g over k.procedure a e

      -- the run of the call, and its denominator
      pub call_run : (v : State) (n : Memory) → run g v ((let l = ends in l.last) ∷ []) n ≡ dmap (returned g k.targets n) (outcomes g (routine_in g fits) (argument_values g v n) n.globals)
      call_run v n =
          let l = ends in
          ap (λ b. out g v b n) (l.program g ∙ ap (λ r. called k.targets r k.arguments done) is_routine) ∙ bind-unit_right (dmap (returned g k.targets n) (outcomes g (routine_in g fits) (argument_values g v n) n.globals))

      pub call_denominator : denominator g ((let l = ends in l.last) ∷ []) ≡ routine_denominator g (routine_in g fits)
      call_denominator =
          let l = ends in
          ap (run_denominator g) (l.program g ∙ ap (λ r. called k.targets r k.arguments done) is_routine) ∙ mul-one (routine_denominator g (routine_in g fits))

      left : (x : Path) → Spares g.types U (global x) → UnwrittenBy g (routine_in g fits) (global x)
      left x i = procedure_left g x ds (means_there ds scoped g over) k.procedure U u i (routine_in g fits) is_routine

      -- the outcomes of which the procedure's judgment speaks
      pub judged_outcomes : (v : State) (n : Memory) → from_frame g (g.procedure k.procedure) (called_from (routine_in g fits) (argument_values g v n) n.globals) ≡ outcomes g (routine_in g fits) (argument_values g v n) n.globals
      judged_outcomes v n =
          ap (λ r. from_frame g r (called_from (routine_in g fits) (argument_values g v n) n.globals)) is_routine
          ∙ called_outcomes g (routine_in g fits) (argument_values g v n) (values_typed c g fits ls v n k.arguments a.params call_typed.0) n.globals

      pub routine_sound : IsSoundRoutine g (routine_in g fits)
      routine_sound = subst (IsSoundIfThere g) is_routine (procedures_sound c g fits k.procedure procedure_there)

      -- what each outcome is
      pub each_outcome : (v : State) (n : Memory) → Every (λ o. IsResult g a.result o × DifferIn g.types U n (record { globals = o.globals; frame = n.frame })) (outcomes g (routine_in g fits) (argument_values g v n) n.globals)
      each_outcome v n =
          every_both (IsResult g a.result) (λ o. DifferIn g.types U n (record { globals = o.globals; frame = n.frame })) (outcomes g (routine_in g fits) (argument_values g v n) n.globals)
          (every_result c g fits a procedure_typed (argument_values g v n) n.globals) (every_differs g (routine_in g fits) U left (argument_values g v n) n)
