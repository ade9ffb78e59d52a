-- A call of a procedure of which the type is known: what a typed one is, and its outcomes.
use Rattle.std.proofs.Common.{◌≡◌, true, List, [], ◌∷◌, map, Some, None, ap, sym, ◌∙◌, subst}
use Rattle.std.proofs.Math.Nat.{mul-one}
use Rattle.gb_core.specs.declared.value.Value.{Value}
use Rattle.gb_core.specs.declared.var.Var.{Var}
use Rattle.gb_dist.specs.WeightedList.{Every, dmap}
use Rattle.gb_dist.proofs.Entries.{Every-weaken}
use Rattle.gb_dist.proofs.Monad.{bind-unit_right}
use Rattle.gb_terms.specs.declared.decl.TypedName.{TypedName}
use Rattle.gb_terms.specs.declared.module.ProcRef.{ProcRef}
use Rattle.gb_terms.specs.declared.term.Instr.{Instr}
use Rattle.gb_goal.specs.declared.sequent.Sequent.{Sequent}
use Rattle.gb_goal.specs.Interfaces.{ProcedureType, procedure_type}
use Rattle.gb_goal.specs.Scope.{Declarations}
use Rattle.gb_meaning.specs.Commands.{called}
use Rattle.gb_meaning.specs.Memory.{Memory, result_in}
use Rattle.gb_meaning.specs.Names.{Map, Path}
use Rattle.gb_meaning.specs.Program.{Routine}
use Rattle.gb_meaning.specs.Program.Program.{done}
use Rattle.gb_meaning.specs.Runs.{out, outcomes, returned, routine_denominator, run_denominator, valued}
use Rattle.gb_meaning.specs.Setting.{Setting}
use Rattle.gb_meaning.specs.State.{State}
use Rattle.gb_meaning.specs.Values.{has}
use Rattle.gb_laws.specs.Cells.Key.{global}
use Rattle.gb_laws.specs.Programs.{Take}
use Rattle.gb_laws.specs.Writes.{Spares, UnwrittenBy}
use Rattle.gb_meaning.specs.Declared.{declared}
use Rattle.gb_typing.specs.Context.{Context, erased}
use Rattle.gb_typing.specs.Context as context
use Rattle.gb_typing.specs.Fits.{IsOfType, IsSettingOf}
use Rattle.gb_typing.specs.Meaning.{denominator, run}
use Rattle.gb_typing.specs.Programs.{IsBody, IsCall}
use Rattle.gb_typing.specs.Rules.{outermost}
use Rattle.gb_typing.specs.Scopes.{context_of, IsTypedScope}
use Rattle.gb_typing.specs.Sequents.{of_sequent, IsTypedSequent}
use Rattle.gb_typing.specs.Typing.{IsThere}
use Rattle.gb_typing.proofs.DeclaredProcedures.{known_is}
use Rattle.gb_typing.proofs.Declaring.{in_goal}
use Rattle.gb_prog.specs.Writes.{DifferIn}
use Rattle.gb_prog.proofs.OracleJudged.{IsFramed, framed, read_result}
use Rattle.gb_call.specs.LastCall.{LastCall, last_call}
use Rattle.gb_call.proofs.Callees.{IsResult, every_both, every_differs}
use Rattle.gb_call.proofs.LastCalls.{IsCalled, called_typed}

-- The outcomes of a procedure of a type: each result is of its type, and what the procedure leaves is as before.
module _ (g : Setting) (u : ProcedureType) (r : Routine) (w : IsOfType g u r) where
  pub every_result : (vs : List Value) (G : Map) → Every (IsResult g u.result) (outcomes g r vs G)
  every_result vs G =
      Every-weaken {P = λ n. IsFramed n × (has g.types u.result (result_in n) ≡ true)} (outcomes g r vs G) (λ n h. (h.1, read_result g.types u.result n h.0 h.1))
      (every_both IsFramed (λ n. has g.types u.result (result_in n) ≡ true) (outcomes g r vs G) (framed g r vs G) (w.results vs G))

  pub each_outcome : (T : List Var) → ((x : Path) → Spares g.types T (global x) → UnwrittenBy g r (global x)) → (vs : List Value) (m : Memory) →
      Every (λ n. IsResult g u.result n × DifferIn g.types T m (record { globals = n.globals; frame = m.frame })) (outcomes g r vs m.globals)
  each_outcome T left vs m =
      every_both (IsResult g u.result) (λ n. DifferIn g.types T m (record { globals = n.globals; frame = m.frame })) (outcomes g r vs m.globals)
      (every_result vs m.globals) (every_differs g r T left vs m)

module _ (ds : Declarations) (scoped : IsTypedScope (declared ds)) (t : Sequent) (typed : IsTypedSequent (context_of (declared ds)) t) where
  abbrev pub c : Context
  c = of_sequent (context_of (declared ds)) t typed.frames

  -- the type that is known by declarations is that in the context of the goal
  pub knows : (o : ProcRef) (u : ProcedureType) → procedure_type ds None o ≡ Some u → context.procedure c o ≡ Some u
  knows o u e = let g = in_goal (context_of (declared ds)) t typed.modules typed.frames in g.procedures o u (known_is ds scoped o ∙ e)

  -- a call that ends a body
  module _ (outer : c ≡ outermost c) (ls : List TypedName) (is : List Instr) (body : IsBody c ls is) (k : LastCall) (last : last_call is ≡ Some k)
      (u : ProcedureType) (known : procedure_type ds None k.procedure ≡ Some u) where
    there : context.procedure c k.procedure ≡ Some u
    there = knows k.procedure u known

    pub procedure_there : IsThere (context.procedure c k.procedure)
    procedure_there = subst IsThere (sym there) tt

    pub ends : IsCalled c ls is k
    ends = called_typed c ls is k body last

    pub call_typed : IsCall c ls k.targets (Some u) k.arguments
    call_typed = let l = ends in subst (λ o. IsCall c ls k.targets o k.arguments) there l.call

    pub takes : Take (erased (outermost c)) ls k.targets u.result
    takes = subst (λ d. Take (erased d) ls k.targets u.result) outer call_typed.1

    abbrev pub argument_values : Setting → State → Memory → List Value
    argument_values g v n = map (λ e. valued g v e n) k.arguments

    module _ (g : Setting) (fits : IsSettingOf c g) where
      pub found_there : (r : Routine) × (g.procedure k.procedure ≡ Some r) × IsOfType g u r
      found_there = fits.procedures k.procedure u there

      abbrev pub routine_in : Routine
      routine_in = found_there.0

      pub is_routine : g.procedure k.procedure ≡ Some routine_in
      is_routine = found_there.1

      pub of_type : IsOfType g u routine_in
      of_type = found_there.2

      -- the run of the call, and its denominator
      pub call_run : (v : State) (n : Memory) → run g v ((let l = ends in l.last) ∷ []) n ≡ dmap (returned g k.targets n) (outcomes g routine_in (argument_values g v n) n.globals)
      call_run v n =
          let l = ends in
          ap (λ b. out g v b n) (l.program g ∙ ap (λ r. called k.targets r k.arguments done) is_routine) ∙ bind-unit_right (dmap (returned g k.targets n) (outcomes g routine_in (argument_values g v n) n.globals))

      pub call_denominator : denominator g ((let l = ends in l.last) ∷ []) ≡ routine_denominator g routine_in
      call_denominator =
          let l = ends in
          ap (run_denominator g) (l.program g ∙ ap (λ r. called k.targets r k.arguments done) is_routine) ∙ mul-one (routine_denominator g routine_in)
