-- A well-typed module, read where the modules that it names are of their interfaces, is of its interface.
use Rattle.std.proofs.Common.{◌≡◌, Bool, true, false, List, [], ◌∷◌, ◌++◌, map, Option, Some, None, if◌then◌else◌, bytes_eq, refl, ap, sym, ◌∙◌, subst}
use Rattle.std.proofs.lemmas.Bool.{false≢true}
use Rattle.std.proofs.lemmas.List.{append_assoc, append-nil}
use Rattle.gb_core.specs.declared.value.Value.{Value}
use Rattle.gb_core.specs.declared.value.Value.TheVariants.{Many}
use Rattle.gb_terms.specs.declared.decl.Module.{Module}
use Rattle.gb_terms.specs.declared.decl.Param.{Param}
use Rattle.gb_terms.specs.declared.decl.Proc.{Proc}
use Rattle.gb_terms.specs.declared.decl.TypedName.{TypedName}
use Rattle.gb_terms.specs.declared.term.Term.{Term}
use Rattle.gb_dist.specs.WeightedList.{WeightedList, Every}
use Rattle.gb_dist.proofs.Entries.{Every-dmap}
use Rattle.gb_meaning.proofs.Maps.{get-set_same}
use Rattle.gb_meaning.specs.Commands.{statements}
use Rattle.gb_meaning.specs.Memory.{Memory, result_name, value_or, outcome}
use Rattle.gb_meaning.specs.Names.{Name, Map, empty}
use Rattle.gb_meaning.specs.Program.{Program, Routine}
use Rattle.gb_meaning.specs.Program.Routine.{routine}
use Rattle.gb_meaning.specs.Runs.{out, outcomes, valued, new_frame}
use Rattle.gb_meaning.specs.Setting.{Setting}
use Rattle.gb_meaning.specs.State.{closed, inside}
use Rattle.gb_meaning.specs.Terms.{quiet}
use Rattle.gb_meaning.specs.Values.{has}
use Rattle.gb_meaning.specs.Written.{type_of}
use Rattle.gb_meaning.specs.Linking.{calling, linked_procedure}
use Rattle.gb_meaning.specs.Modules.{Procedures, Functor, Applied, found, no_module, with_module, argument, with_params, procedure_at, with_procedure, with_procedures, module_read}
use Rattle.gb_meaning.specs.Modules as linked
use Rattle.gb_laws.specs.Context as typed
use Rattle.gb_laws.specs.Finite.{IsFinite}
use Rattle.gb_laws.proofs.Sizes.{widened}
use Rattle.gb_laws.proofs.Terms.{typed_has}
use Rattle.gb_typing.specs.Modules.{ProcedureType, FunctorType, Interface, Modules, functor_type, of_functor_type, without_lacks, with_interface}
use Rattle.gb_typing.specs.Context.{Context, erased, of_program}
use Rattle.gb_typing.specs.Programs.{IsExpression, IsProcedure, locals_of, type_of_procedure}
use Rattle.gb_typing.specs.Fits.{HasResult, IsOfType}
use Rattle.gb_typing.specs.Scopes.{interface_with, procedure_types, in_module, AreProcedures}
use Rattle.gb_typing.specs.Scopes as scopes
use Rattle.gb_typing.proofs.Drawing.{Callees, each_sound}
use Rattle.gb_typing.proofs.Erased.{erased_typed}
use Rattle.gb_typing.proofs.Fitting.{state_inside}
use Rattle.gb_typing.proofs.Provided.{like, is_some, or_else, Provide, Like, AreGiven, AreFunctors, IsFunctor, IsApplied, procedure_stands}
use Rattle.gb_typing.proofs.Substituted.{quiet_fractional}

abbrev pub interface_or : Interface → Option Interface → Interface
interface_or i None = i
interface_or i (Some j) = j

each : {A : Type 0} (l : WeightedList A) → Every (λ a. Unit {0}) l
each [] = tt
each (e ∷ l) = (tt, each l)

module _ (g : Setting) where
  -- the results of a procedure, whose value is of a type in each state
  pub value_results : (ps ls : List TypedName) (q : Program) (r : Term) (t : ProcedureType) → ((n : Memory) → has g.types t.result (valued g closed r n) ≡ true) →
      (vs : List Value) (globals : Map) → Every (HasResult g t) (outcomes g (routine ps ls q r) vs globals)
  value_results ps ls q r t h vs globals =
      Every-dmap {P = λ n. Unit {0}} (HasResult g t) (λ n. outcome n.globals (valued g closed r n)) (out g closed q (record { globals = globals; frame = new_frame g ps ls vs }))
      (λ n k. subst (λ v. has g.types t.result (value_or v (Many [])) ≡ true) (sym (get-set_same empty (result_name ∷ []) (valued g closed r n))) (h n)) (each _)

  expression_has : (c : Context) → typed.IsSettingOf (erased c) g → (ls : List TypedName) (e : Term) → IsExpression c ls e → IsFinite (type_of e) → (n : Memory) →
      has g.types (type_of e) (valued g closed e n) ≡ true
  expression_has c f ls e w k n =
      typed_has (erased (of_program c ls)) g (record { inhabited = f.inhabited; operators = f.operators; distributions = f.distributions }) quiet quiet_fractional e
      (erased_typed (of_program c ls) e w.typed) k (inside closed n) (state_inside c g ls closed n)

  -- procedures under the same names, one for each type
  abbrev pub AreProcs : (ProcedureType → Routine → Type 0) → Procedures ProcedureType → Procedures Routine → Type 0
  AreProcs Q [] [] = Unit {0}
  AreProcs Q (p ∷ ps) (r ∷ rs) = (p.0 ≡ r.0) × Q p.1 r.1 × AreProcs Q ps rs
  AreProcs Q _ _ = ⊥

  abbrev pub Exact : ProcedureType → Routine → Type 0
  Exact t r = IsOfType g t r

  module _ (Q : ProcedureType → Routine → Type 0) where
    provided : (ps : Procedures ProcedureType) (rs : Procedures Routine) → AreProcs Q ps rs → Provide Q ps rs
    provided [] [] w n t e = absurd (false≢true (ap is_some e))
    provided [] (r ∷ rs) w n t e = absurd w
    provided (p ∷ ps) [] w n t e = absurd w
    provided (p ∷ ps) (r ∷ rs) w n t e = step (provided ps rs w.2 n t) (bytes_eq n p.0) refl e
      where
        there : (b : Bool) → bytes_eq n p.0 ≡ b → found (r ∷ rs) n ≡ (if b then Some r.1 else found rs n)
        there b h = (λ i. if bytes_eq n (sym w.0 i) then Some r.1 else found rs n) ∙ ap (λ b. if b then Some r.1 else found rs n) h

        step : (found ps n ≡ Some t → (r : Routine) × (found rs n ≡ Some r) × Q t r) → (b : Bool) → bytes_eq n p.0 ≡ b → (if b then Some p.1 else found ps n) ≡ Some t →
            (x : Routine) × (found (r ∷ rs) n ≡ Some x) × Q t x
        step later true h e = (r.1, there true h, subst (λ t. Q t r.1) (ap (or_else p.1) e) w.1)
        step later false h e = let k = later e in (k.0, there false h ∙ k.1, k.2)

    appended : (ps qs : Procedures ProcedureType) (rs xs : Procedures Routine) → AreProcs Q ps rs → AreProcs Q qs xs → AreProcs Q (ps ++ qs) (rs ++ xs)
    appended [] qs [] xs w k = k
    appended [] qs (r ∷ rs) xs w k = absurd w
    appended (p ∷ ps) qs [] xs w k = absurd w
    appended (p ∷ ps) qs (r ∷ rs) xs w k = (w.0, w.1, appended ps qs rs xs w.2 k)

    -- a further module of an interface
    pub with_stand : (ms : Modules) (ks : linked.Modules Routine) → ((n : Name) (i : Interface) → ms.interfaces n ≡ Some i → IsApplied g Q i (ks n)) →
        (n : Name) (i : Interface) (a : Applied Routine) → IsApplied g Q i a → (k : Name) (j : Interface) → (with_interface ms n (Some i)).interfaces k ≡ Some j → IsApplied g Q j (with_module ks n a k)
    with_stand ms ks s n i a w k j = step (bytes_eq k n)
      where
        step : (b : Bool) → (if b then Some i else ms.interfaces k) ≡ Some j → IsApplied g Q j (if b then a else ks k)
        step true e = subst (λ j. IsApplied g Q j a) (ap (interface_or i) e) w
        step false e = s k j e

  abbrev pub StandLike : Modules → linked.Modules Routine → Type 0
  StandLike ms ks = (n : Name) (i : Interface) → ms.interfaces n ≡ Some i → IsApplied g (Like g) i (ks n)

  pub given_each : (ls : List (Procedures ProcedureType)) (fs : List (Functor Routine)) → AreFunctors g (map without_lacks ls) fs → AreGiven g ls (map (λ a. a []) fs)
  given_each [] [] w = tt
  given_each [] (f ∷ fs) w = absurd w
  given_each (l ∷ ls) [] w = absurd w
  given_each (l ∷ ls) (f ∷ fs) w = (w.0 [] tt, given_each ls fs w.1)

  argument_applied : (t : FunctorType) (f : Functor Routine) → IsFunctor g t f → IsApplied g (Like g) (of_functor_type t) (argument f)
  argument_applied t f w fs h = w (map (λ a. a []) fs) (given_each t.lacks fs h)

  params_stand : (ms : Modules) (ks : linked.Modules Routine) → StandLike ms ks → (ps : List Param) (fs : List (Functor Routine)) →
      AreFunctors g (map (λ p. functor_type ms.types (ms.types p.ty)) ps) fs → StandLike (scopes.with_params ms ps) (with_params ks ps fs)
  params_stand ms ks s [] [] w = s
  params_stand ms ks s [] (f ∷ fs) w = absurd w
  params_stand ms ks s (p ∷ ps) [] w = absurd w
  params_stand ms ks s (p ∷ ps) (f ∷ fs) w =
      with_stand (Like g) (scopes.with_params ms ps) (with_params ks ps fs) (params_stand ms ks s ps fs w.1) p.name (of_functor_type (functor_type ms.types (ms.types p.ty))) (argument f)
      (argument_applied (functor_type ms.types (ms.types p.ty)) f w.0)

  module _ (h : Setting) (c : Context) (fits : typed.IsSettingOf (erased c) g) (m : Module) (ks : linked.Modules Routine) (stand : StandLike c.modules ks) where
    abbrev lacks : List FunctorType
    lacks = map (λ p. functor_type c.modules.types (c.modules.types p.ty)) m.params

    abbrev Earlier : Procedures ProcedureType → Applied Routine → Type 0
    Earlier ts a = (fs : List (Functor Routine)) → AreFunctors g lacks fs → AreProcs Exact ts (a fs)

    exact : (ts : Procedures ProcedureType) (a : Applied Routine) → Earlier ts a → (p : Proc) → IsProcedure (in_module c m ts) p → (fs : List (Functor Routine)) → AreFunctors g lacks fs →
        IsOfType g (type_of_procedure p) (linked_procedure h (procedure_at (with_params (with_module ks m.name a) m.params fs)) p)
    exact ts a e p w fs k = record {
      params = refl;
      result = w.returned;
      sound = each_sound inside g inside_fits (locals_of p) (calling h (procedure_at callees)) callees_stand p.body.list w.body.statements;
      results = value_results p.params p.locals (statements (calling h (procedure_at callees)) p.body.list) p.value (type_of_procedure p)
          (λ n. subst (λ t. has g.types t (valued g closed p.value n) ≡ true) w.returned
          (expression_has inside inside_fits (locals_of p) p.value w.value (subst IsFinite (sym w.returned) (widened g.types fits.inhabited p.result w.result)) n));
    }
      where
        inside : Context
        inside = in_module c m ts

        inside_fits : typed.IsSettingOf (erased (in_module c m ts)) g
        inside_fits = record { inhabited = fits.inhabited; operators = fits.operators; distributions = fits.distributions }

        callees : linked.Modules Routine
        callees = with_params (with_module ks m.name a) m.params fs

        own : StandLike (with_interface c.modules m.name (Some (interface_with c.modules.types m.params ts))) (with_module ks m.name a)
        own = with_stand (Like g) c.modules ks stand m.name (interface_with c.modules.types m.params ts) a (λ xs z n t q. let y = provided Exact ts (a xs) (e xs z) n t q in (y.0, y.1, like g t y.0 y.2))

        callees_stand : Callees g (calling h (procedure_at callees)) (in_module c m ts)
        callees_stand q t z =
            let y = procedure_stands g (Like g) (λ t r w. w) (in_module c m ts).modules callees
            (params_stand (with_interface c.modules m.name (Some (interface_with c.modules.types m.params ts))) (with_module ks m.name a) own m.params fs k) q t z in
            (y.0, y.1, y.2.sound)

    read_each : (ts : Procedures ProcedureType) (a : Applied Routine) → Earlier ts a → (ps : List Proc) → AreProcedures c m ts ps →
        Earlier (ts ++ procedure_types ps) (with_procedures (linked_procedure h) ks m a ps)
    read_each ts a e [] w fs k = subst (λ z. AreProcs Exact z (a fs)) (sym (append-nil ts)) (e fs k)
    read_each ts a e (p ∷ ps) w fs k =
        subst (λ z. AreProcs Exact z (with_procedures (linked_procedure h) ks m a (p ∷ ps) fs)) (append_assoc ts ((p.name, type_of_procedure p) ∷ []) (procedure_types ps))
        (read_each (ts ++ (p.name, type_of_procedure p) ∷ []) (with_procedure (linked_procedure h) ks m a p)
        (λ xs z. appended Exact ts ((p.name, type_of_procedure p) ∷ []) (a xs) ((p.name, linked_procedure h (procedure_at (with_params (with_module ks m.name a) m.params xs)) p) ∷ []) (e xs z)
        (refl, exact ts a e p w.1 xs z, tt)) ps w.2 fs k)

    -- the module, read, is of its interface
    pub module_stands : AreProcedures c m [] m.procs → IsApplied g Exact (interface_with c.modules.types m.params (procedure_types m.procs)) (module_read (linked_procedure h) ks m)
    module_stands w fs k = provided Exact (procedure_types m.procs) (module_read (linked_procedure h) ks m fs) (read_each [] no_module none m.procs w fs k)
      where
        none : Earlier [] no_module
        none fs k = tt
