-- The procedures of a setting in which no program is chosen speak of the globals of modules in P alone, where the scope does.
use Rattle.std.proofs.Common.{◌≡◌, ℕ, Bool, true, false, if◌then◌else◌, List, [], ◌∷◌, ◌++◌, map, Option, Some, None, bytes_eq}
use Rattle.std.proofs.lemmas.Bool.{false≢true}
use Rattle.gb_core.specs.declared.ty.Ty.{Ty, Row_of-Ty, end_of-Ty, more_of-Ty}
use Rattle.gb_core.specs.declared.ty.Ty.TheVariants as ty
use Rattle.gb_core.specs.declared.var.Var.{Var}
use Rattle.gb_core.specs.declared.var.Var.TheVariants as var
use Rattle.gb_terms.specs.declared.decl.Module.{Module}
use Rattle.gb_terms.specs.declared.decl.Param.{Param}
use Rattle.gb_terms.specs.declared.decl.Proc.{Proc}
use Rattle.gb_terms.specs.declared.decl.TypedName.{TypedName}
use Rattle.gb_terms.specs.declared.module.Mexp.{Mexp, Row_of-Mexp, end_of-Mexp, more_of-Mexp}
use Rattle.gb_terms.specs.declared.module.Mexp.TheVariants.{Name as named, Apply'}
use Rattle.gb_terms.specs.declared.module.ProcRef.{ProcRef}
use Rattle.gb_terms.specs.declared.term.Term.{Term, Row_of-Term, end_of-Term, more_of-Term}
use Rattle.gb_terms.specs.declared.term.Head.TheVariants.{Assign, Sample, Call', If', While'}
use Rattle.gb_terms.specs.declared.term.Instr.{Instr, Row_of-Instr, end_of-Instr, more_of-Instr}
use Rattle.gb_meaning.specs.Commands.{terms_in, program_of, called, statement, statements}
use Rattle.gb_meaning.specs.Names.{Name}
use Rattle.gb_meaning.specs.Program.{Program, Routine}
use Rattle.gb_meaning.specs.Setting.{Setting}
use Rattle.gb_meaning.specs.Values.{World}
use Rattle.gb_meaning.specs.Written.{type_of}
use Rattle.gb_laws.specs.Finite.{IsVariableType, AreFiniteWith}
use Rattle.gb_laws.specs.Operators.{parts_in}
use Rattle.gb_laws.specs.Programs.{variable_type, HaveTypes, Take}
use Rattle.gb_meaning.specs.Declared.{Declarations, abstract_type, abbreviation, operator, abstract_operator, module_type, concrete_module, abstract_module, axiom_of, lemma, terminating}
use Rattle.gb_meaning.specs.Globs.{EachGlob, EachGlobIn}
use Rattle.gb_meaning.specs.Holds.{interpretation}
use Rattle.gb_meaning.specs.Linking.{calling, linked_procedure}
use Rattle.gb_meaning.specs.Modules.{Procedures, Functor, Applied, Modules, found, closed, module_at, modules_at, procedure_at, no_module, with_module, argument, with_params, with_procedure, with_procedures, module_read, modules_of}
use Rattle.gb_meaning.specs.Naming.{AnyName}
use Rattle.gb_meaning.specs.Settings.{Table, types_of, bare, with_operators, setting}
use Rattle.gb_typing.specs.Naming.{EachGlobOf, EachGlobAmong, VariableNames, VariablesName, TermsName, EachTermNames, ProgramNames, RoutineNames, NamesIfThere, TermNames}
use Rattle.gb_typing.specs.Modules.{ProcedureType}
use Rattle.gb_typing.specs.Context.{Context, procedure, erased}
use Rattle.gb_typing.specs.Programs.{HaveVariableTypes, IsCall, IsStatement, AreStatements, EachStatement, IsProcedure, locals_of, type_of_procedure}
use Rattle.gb_typing.specs.Scopes.{nothing, IsMeasured, AreVariableTypes, in_module, AreProcedures, AreTypedAfter, IsTypedScope}
use Rattle.gb_elab_laws.specs.Speaking.{StatementSpeaks, StatementsSpeak, BodySpeaks, ProceduresSpeak, ScopeSpeaks}
use mathlib.Core.Former.{Count}

pub none_some : {A : Type 0} {B : Type 0} (x : A) → None ≡ Some x → B
none_some {A} x e = absurd (false≢true (λ i. is_some (e i)))
  where
    is_some : Option A → Bool
    is_some None = false
    is_some (Some t) = true

module _ (P : Name → Type 0) where
  -- variables that a typed program writes

  module _ (c : Context) (ls : List TypedName) where
    pub written : (x : Var) (t : Ty) → variable_type (erased c) ls x ≡ Some t → VariableNames P x
    written (var.Global m x) t e = tt
    written (var.Local x) t e = tt
    written (var.Glob a) t e = none_some t e

    each_written : (xs : List Var) (ts : List Ty) → HaveTypes (erased c) ls xs ts → VariablesName P xs
    each_written [] [] w = tt
    each_written [] (t ∷ ts) w = absurd w
    each_written (x ∷ xs) [] w = absurd w
    each_written (x ∷ xs) (t ∷ ts) w = (written x t w.0, each_written xs ts w.1)

    pub taken : (xs : List Var) (t : Ty) → Take (erased c) ls xs t → VariablesName P xs
    taken [] t w = tt
    taken (x ∷ []) t w = (written x t w, tt)
    taken (x ∷ y ∷ xs) t w = each_written (x ∷ y ∷ xs) (parts_in t) w

    pub taken_called : (xs : List Var) (o : Option ProcedureType) (es : List Term) → IsCall c ls xs o es → VariablesName P xs
    taken_called xs None es w = absurd w
    taken_called xs (Some t) es w = taken xs t.result w.1

  mutual
    no_globs : (t : Ty) → IsVariableType t → EachGlob P t
    no_globs (ty.Tuple' n ts) w = no_globs_in ts w
    no_globs (ty.Opt' p x) w = no_globs_in x w
    no_globs (ty.Map' p k q x) w = (no_globs_in k w.0, no_globs_in x w.1)
    no_globs (ty.Glob a) w = absurd (false≢true w)
    no_globs (ty.Distr' p x) w = absurd w
    no_globs _ w = tt

    no_globs_in : {n : Count} (ts : Row_of-Ty n) → AreFiniteWith false ts → EachGlobIn P ts
    no_globs_in end_of-Ty w = tt
    no_globs_in (more_of-Ty t ts) w = (no_globs t w.0, no_globs_in ts w.1)

  pub variables_apart : (ts : List Ty) → AreVariableTypes ts → EachGlobAmong P ts
  variables_apart [] w = tt
  variables_apart (t ∷ ts) w = (no_globs t w.0, variables_apart ts w.1)

  pub measured_apart : (t : Ty) → IsMeasured t → EachGlob P t
  measured_apart ty.Int w = tt
  measured_apart ty.Real w = tt
  measured_apart (ty.Tuple' n ts) w = no_globs_in ts w
  measured_apart (ty.Opt' p x) w = no_globs_in x w
  measured_apart (ty.Map' p k q x) w = (no_globs_in k w.0, no_globs_in x w.1)
  measured_apart (ty.Glob a) w = absurd (false≢true w)
  measured_apart (ty.Distr' p x) w = absurd w
  measured_apart _ w = tt

  locals_apart : (ls : List TypedName) → HaveVariableTypes ls → EachGlobOf P ls
  locals_apart [] w = tt
  locals_apart (l ∷ ls) w = (no_globs l.ty w.0, locals_apart ls w.1)

  front : (ps ls : List TypedName) → HaveVariableTypes (ps ++ ls) → HaveVariableTypes ps × HaveVariableTypes ls
  front [] ls w = (tt, w)
  front (p ∷ ps) ls w = let x = front ps ls w.1 in ((w.0, x.0), x.1)

  terms_name : {n : Count} (ts : Row_of-Term n) → TermsName P AnyName ts → EachTermNames P AnyName (terms_in ts)
  terms_name end_of-Term k = tt
  terms_name (more_of-Term t ts) k = (k.0, terms_name ts k.1)

  call_names : (xs : List Var) (r : Option Routine) (es : List Term) (c : Program) → VariablesName P xs → NamesIfThere P AnyName r → EachTermNames P AnyName es →
      ProgramNames P AnyName c → ProgramNames P AnyName (called xs r es c)
  call_names xs None es c v n e k = k
  call_names xs (Some r) es c v n e k = (v, n, e, k)

  -- typed programs, where the procedures that they may call speak of modules in P
  module _ (g : Setting) (c : Context) (ls : List TypedName) (all : (r : ProcRef) → NamesIfThere P AnyName (g.procedure r)) where
    mutual
      statement_names : (i : _) → IsStatement c ls i → StatementSpeaks P i → (p : Program) → ProgramNames P AnyName p → ProgramNames P AnyName (statement g i p)
      statement_names (Assign xs e) w k p n = (taken c ls xs (type_of e) w.1, k, n)
      statement_names (Sample x d) w k p n = (written c ls x _ w.2, k, n)
      statement_names (Call' xs r m es) w k p n = call_names xs (g.procedure r) (terms_in es) p (taken_called c ls xs (procedure c r) (terms_in es) w) (all r) (terms_name es k) n
      statement_names (If' e m a n b) w k p x = (k.0, row_names a w.1 k.1, row_names b w.2 k.2, x)
      statement_names (While' e v n a) w k p x = (k.0, k.1, row_names a w.2 k.2, x)

      pub row_names : {n : Count} (is : Row_of-Instr n) → AreStatements c ls is → StatementsSpeak P is → ProgramNames P AnyName (program_of g is)
      row_names end_of-Instr w k = tt
      row_names (more_of-Instr (Assign xs e) is) w k = statement_names (Assign xs e) w.0 k.0 (program_of g is) (row_names is w.1 k.1)
      row_names (more_of-Instr (Sample x d) is) w k = statement_names (Sample x d) w.0 k.0 (program_of g is) (row_names is w.1 k.1)
      row_names (more_of-Instr (Call' xs r m es) is) w k = statement_names (Call' xs r m es) w.0 k.0 (program_of g is) (row_names is w.1 k.1)
      row_names (more_of-Instr (If' e m a n b) is) w k = statement_names (If' e m a n b) w.0 k.0 (program_of g is) (row_names is w.1 k.1)
      row_names (more_of-Instr (While' e v n a) is) w k = statement_names (While' e v n a) w.0 k.0 (program_of g is) (row_names is w.1 k.1)

    pub body_names : (is : List Instr) → EachStatement c ls is → BodySpeaks P is → ProgramNames P AnyName (statements g is)
    body_names [] w k = tt
    body_names (i ∷ is) w k = statement_names i w.0 k.0 (statements g is) (body_names is w.1 k.1)

  -- what modules stand for

  abbrev AreIn : Procedures Routine → Type 0
  AreIn [] = Unit {0}
  AreIn (p ∷ ps) = RoutineNames P AnyName p.1 × AreIn ps

  abbrev AreEachIn : List (Procedures Routine) → Type 0
  AreEachIn [] = Unit {0}
  AreEachIn (l ∷ ls) = AreIn l × AreEachIn ls

  abbrev IsFunctorIn : Functor Routine → Type 0
  IsFunctorIn f = (ls : List (Procedures Routine)) → AreEachIn ls → AreIn (f ls)

  abbrev AreFunctorsIn : List (Functor Routine) → Type 0
  AreFunctorsIn [] = Unit {0}
  AreFunctorsIn (f ∷ fs) = IsFunctorIn f × AreFunctorsIn fs

  abbrev IsAppliedIn : Applied Routine → Type 0
  IsAppliedIn m = (args : List (Functor Routine)) → AreFunctorsIn args → AreIn (m args)

  abbrev AreModulesIn : Modules Routine → Type 0
  AreModulesIn ms = (n : Name) → IsAppliedIn (ms n)

  append_functors : (fs gs : List (Functor Routine)) → AreFunctorsIn fs → AreFunctorsIn gs → AreFunctorsIn (fs ++ gs)
  append_functors [] gs h k = k
  append_functors (f ∷ fs) gs h k = (h.0, append_functors fs gs h.1 k)

  append_procedures : (ps qs : Procedures Routine) → AreIn ps → AreIn qs → AreIn (ps ++ qs)
  append_procedures [] qs h k = k
  append_procedures (p ∷ ps) qs h k = (h.0, append_procedures ps qs h.1 k)

  closed_in : (ls : List (Procedures Routine)) → AreEachIn ls → AreFunctorsIn (map closed ls)
  closed_in [] h = tt
  closed_in (l ∷ ls) h = (λ ks k. h.0, closed_in ls h.1)

  opened_in : (fs : List (Functor Routine)) → AreFunctorsIn fs → AreEachIn (map (λ f. f []) fs)
  opened_in [] h = tt
  opened_in (f ∷ fs) h = (h.0 [] tt, opened_in fs h.1)

  found_if : (b : Bool) (r : Routine) (o : Option Routine) → RoutineNames P AnyName r → NamesIfThere P AnyName o → NamesIfThere P AnyName (if b then Some r else o)
  found_if true r o h k = h
  found_if false r o h k = k

  found_in : (ps : Procedures Routine) → AreIn ps → (n : Name) → NamesIfThere P AnyName (found ps n)
  found_in [] h n = tt
  found_in (p ∷ ps) h n = found_if (bytes_eq n p.0) p.1 (found ps n) h.0 (found_in ps h.1 n)

  module _ (ms : Modules Routine) (h : AreModulesIn ms) where
    mutual
      module_in : (m : Mexp) → IsFunctorIn (module_at ms m)
      module_in (named m) = λ ls k. h m (map closed ls) (closed_in ls k)
      module_in (Apply' m n args) = λ ls k. h m (modules_at ms args ++ map closed ls) (append_functors (modules_at ms args) (map closed ls) (modules_in args) (closed_in ls k))

      modules_in : {n : Count} (r : Row_of-Mexp n) → AreFunctorsIn (modules_at ms r)
      modules_in end_of-Mexp = tt
      modules_in (more_of-Mexp m r) = (module_in m, modules_in r)

    procedure_in : (r : ProcRef) → NamesIfThere P AnyName (procedure_at ms r)
    procedure_in r = found_in (module_at ms r.«module» []) (module_in r.«module» [] tt) r.name

  applied_if : (b : Bool) (x y : Applied Routine) → IsAppliedIn x → IsAppliedIn y → IsAppliedIn (if b then x else y)
  applied_if true x y h k = h
  applied_if false x y h k = k

  with_in : (ms : Modules Routine) → AreModulesIn ms → (n : Name) (m : Applied Routine) → IsAppliedIn m → AreModulesIn (with_module ms n m)
  with_in ms h n m k x = applied_if (bytes_eq x n) m (ms x) k (h x)

  params_in : (ms : Modules Routine) → AreModulesIn ms → (ps : List Param) (args : List (Functor Routine)) → AreFunctorsIn args → AreModulesIn (with_params ms ps args)
  params_in ms h [] args a = h
  params_in ms h (p ∷ ps) [] a = with_in (with_params ms ps []) (params_in ms h ps [] tt) p.name no_module (λ bs c. tt)
  params_in ms h (p ∷ ps) (x ∷ args) a =
      with_in (with_params ms ps args) (params_in ms h ps args a.1) p.name (argument x) (λ bs c. a.0 (map (λ z. z []) bs) (opened_in bs c))

  module _ (g : Setting) where
    module _ (c : Context) (m : Module) (ms : Modules Routine) (h : AreModulesIn ms) where
      code_in : (ts : Procedures ProcedureType) (p : Proc) → IsProcedure (in_module c m ts) p → BodySpeaks P p.body.list × TermNames P AnyName p.value → (e : Applied Routine) → IsAppliedIn e →
          (args : List (Functor Routine)) → AreFunctorsIn args →
          RoutineNames P AnyName (linked_procedure g (procedure_at (with_params (with_module ms m.name e) m.params args)) p)
      code_in ts p w k e x args a =
          let ks : Modules Routine = with_params (with_module ms m.name e) m.params args in
          let b = w.body in
          let l = front p.params p.locals b.locals in (
            locals_apart p.params l.0,
            locals_apart p.locals l.1,
            body_names (calling g (procedure_at ks)) (in_module c m ts) (locals_of p)
                (procedure_in ks (params_in (with_module ms m.name e) (with_in ms h m.name e x) m.params args a)) p.body.list b.statements k.0,
            k.1,
          )

      codes_in : (ps : List Proc) (ts : Procedures ProcedureType) → AreProcedures c m ts ps → ProceduresSpeak P ps → (e : Applied Routine) → IsAppliedIn e →
          IsAppliedIn (with_procedures (linked_procedure g) ms m e ps)
      codes_in [] ts w k e x = x
      codes_in (p ∷ ps) ts w k e x =
          codes_in ps (ts ++ (p.name, type_of_procedure p) ∷ []) w.2 k.1 (with_procedure (linked_procedure g) ms m e p)
          (λ args a. append_procedures (e args) _ (x args a) (code_in ts p w.1 k.0 e x args a, tt))

    declared_in : (ds before : Declarations) (c : Context) → AreTypedAfter c before ds → ScopeSpeaks P ds → (ms : Modules Routine) → AreModulesIn ms →
        AreModulesIn (modules_of (linked_procedure g) ms ds)
    declared_in [] before c w k ms h = h
    declared_in ((n, concrete_module m) ∷ ds) before c w k ms h =
        declared_in ds _ _ w.2 k.1 (with_module ms n (module_read (linked_procedure g) ms m))
        (with_in ms h n (module_read (linked_procedure g) ms m) (codes_in c m ms h m.procs [] (let x = w.1 in x.procs) k.0 no_module (λ args a. tt)))
    declared_in ((n, abstract_type) ∷ ds) before c w k ms h = declared_in ds _ _ w.2 k.1 ms h
    declared_in ((n, abbreviation stood) ∷ ds) before c w k ms h = declared_in ds _ _ w.2 k.1 ms h
    declared_in ((n, operator o) ∷ ds) before c w k ms h = declared_in ds _ _ w.2 k.1 ms h
    declared_in ((n, abstract_operator o) ∷ ds) before c w k ms h = declared_in ds _ _ w.2 k.1 ms h
    declared_in ((n, module_type t) ∷ ds) before c w k ms h = declared_in ds _ _ w.2 k.1 ms h
    declared_in ((n, abstract_module b) ∷ ds) before c w k ms h = declared_in ds _ _ w.2 k.1 ms h
    declared_in ((n, axiom_of q) ∷ ds) before c w k ms h = declared_in ds _ _ w.2 k.1 ms h
    declared_in ((n, lemma q) ∷ ds) before c w k ms h = declared_in ds _ _ w.2 k.1 ms h
    declared_in ((n, terminating f) ∷ ds) before c w k ms h = declared_in ds _ _ w.2 k.1 ms h

  pub procedures_in : (ds : Declarations) → IsTypedScope ds → ScopeSpeaks P ds → (w : World) (size : Name → ℕ) (table : Table) (r : ProcRef) →
      NamesIfThere P AnyName ((setting ds (interpretation w size table)).procedure r)
  procedures_in ds t k w size table =
      let i = interpretation w size table in
      let g : Setting = with_operators table (bare (types_of ds i) table) ds in
      procedure_in (modules_of (linked_procedure g) (λ n. no_module) ds) (declared_in g ds [] nothing t k (λ n. no_module) (λ n args a. tt))
