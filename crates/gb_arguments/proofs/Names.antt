-- The procedures of a setting speak of the globals of modules in P alone, where the scope does, whatever programs of their types are chosen: as
-- far as they have types.
use Rattle.std.proofs.Common.{◌≡◌, false, List, [], ◌∷◌, ◌++◌, map, Option, Some, None, option_map, refl, sym, subst}
use Rattle.std.proofs.lemmas.Bool.{false≢true}
use Rattle.std.proofs.lemmas.Option.{none-some}
use mathlib.Core.Former.{Count}
use Rattle.gb_core.specs.declared.ty.Ty.{Ty, Row_of-Ty, end_of-Ty, more_of-Ty}
use Rattle.gb_core.specs.declared.ty.Ty.TheVariants as ty
use Rattle.gb_core.specs.declared.var.Var.{Var}
use Rattle.gb_core.specs.declared.var.Var.TheVariants as var
use Rattle.gb_terms.specs.declared.decl.Module.{Module}
use Rattle.gb_terms.specs.declared.decl.Proc.{Proc}
use Rattle.gb_terms.specs.declared.decl.TypedName.{TypedName}
use Rattle.gb_terms.specs.declared.module.Bind.{Bind}
use Rattle.gb_terms.specs.declared.module.ProcRef.{ProcRef}
use Rattle.gb_terms.specs.declared.term.Term.{Term, Row_of-Term, end_of-Term, more_of-Term}
use Rattle.gb_terms.specs.declared.term.Head.TheVariants.{Assign, Sample, Call', If', While'}
use Rattle.gb_terms.specs.declared.term.Instr.{Instr, Row_of-Instr, end_of-Instr, more_of-Instr}
use Rattle.gb_meaning.specs.Commands.{terms_in, program_of, called, statement, statements}
use Rattle.gb_meaning.specs.Names.{Name}
use Rattle.gb_meaning.specs.Program.{Program, Routine, Oracle}
use Rattle.gb_meaning.specs.Setting.{Setting}
use Rattle.gb_meaning.specs.Values.{World}
use Rattle.gb_meaning.specs.Written.{type_of}
use Rattle.gb_meaning.specs.Adversary.{Adversary, callable, each_linked, with_oracles}
use Rattle.gb_meaning.specs.Declared.{Declarations, ModuleType, Signature, abstract_type, abbreviation, operator, abstract_operator, module_type, concrete_module, abstract_module, axiom_of, lemma, terminating}
use Rattle.gb_meaning.specs.Globs.{EachGlob, EachGlobIn}
use Rattle.gb_meaning.specs.Linking.{Oracles, calling, link_routine, linked_procedure, oracle_of}
use Rattle.gb_meaning.specs.Modules.{found, no_module, procedure_at}
use Rattle.gb_meaning.specs.Modules as linked
use Rattle.gb_meaning.specs.Naming.{AnyName}
use Rattle.gb_meaning.specs.Programs.{IsProcedureFor, IsProgramFor}
use Rattle.gb_meaning.specs.Settings.{Interpretation, linked_modules, setting, with_abstract_programs}
use Rattle.gb_meaning.proofs.EachProgram.{found-each_linked}
use Rattle.gb_laws.specs.Finite.{IsVariableType, AreFiniteWith}
use Rattle.gb_laws.specs.Operators.{parts_in}
use Rattle.gb_laws.specs.Programs.{variable_type, HaveTypes, Take}
use Rattle.gb_typing.specs.Alike.{SameParams}
use Rattle.gb_typing.specs.Chosen.{AreChosen, IsChosenOver}
use Rattle.gb_typing.specs.Context.{Context, procedure, erased}
use Rattle.gb_typing.specs.Formulas.{with_module}
use Rattle.gb_typing.specs.Modules.{ProcedureType, functor_type, of_functor_type, signature_types, signatures_of}
use Rattle.gb_typing.specs.Naming.{EachGlobOf, VariableNames, VariablesName, TermsName, EachTermNames, ProgramNames, NamesIfThere, TermNames}
use Rattle.gb_typing.specs.Programs.{HaveVariableTypes, IsCall, IsStatement, AreStatements, EachStatement, locals_of}
use Rattle.gb_typing.specs.Scopes.{nothing, context_of, IsTypedScope}
use Rattle.gb_typing.specs.Sequents.{AreBinders, with_modules}
use Rattle.gb_typing.proofs.KeptPrograms.{linked_is}
use Rattle.gb_typing.proofs.Settings.{agree_at, chosen_program}
use Rattle.gb_typing.proofs.Settings as settings
use Rattle.gb_typing.proofs.TypedNames.{linked-routine-names}
use Rattle.gb_arguments.specs.Reading.{AreInModule, AreInside, KeepAlike}
use Rattle.gb_arguments.specs.Related.{AreAllAlike, IsNarrow, StandAlike}
use Rattle.gb_typing.specs.Speaking.{BodySpeaks, ProceduresSpeak, ScopeSpeaks, StatementSpeaks, StatementsSpeak}
use Rattle.gb_arguments.proofs.Chosen.{answers, binder_alike, chosen_alike, each_signed, signed_called, typed_as}
use Rattle.gb_arguments.proofs.Expressions.{procedure_alike}
use Rattle.gb_arguments.proofs.Readings.{given_each, named_alike}
use Rattle.gb_arguments.proofs.Scopes.{scope_stands}

module _ (P : Name → Type 0) where
  -- Types of variables speak of no module.

  mutual
    no_globs : (t : Ty) → IsVariableType t → EachGlob P t
    no_globs (ty.Tuple' n ts) w = no_globs_in ts w
    no_globs (ty.Opt' p x) w = no_globs_in x w
    no_globs (ty.Map' p k q x) w = (no_globs_in k w.0, no_globs_in x w.1)
    no_globs (ty.Glob a) w = absurd (false≢true w)
    no_globs (ty.Distr' p x) w = absurd w
    no_globs _ w = tt

    no_globs_in : {n : Count} (ts : Row_of-Ty n) → AreFiniteWith false ts → EachGlobIn P ts
    no_globs_in end_of-Ty w = tt
    no_globs_in (more_of-Ty t ts) w = (no_globs t w.0, no_globs_in ts w.1)

  locals_apart : (ls : List TypedName) → HaveVariableTypes ls → EachGlobOf P ls
  locals_apart [] w = tt
  locals_apart (l ∷ ls) w = (no_globs l.ty w.0, locals_apart ls w.1)

  front : (ps ls : List TypedName) → HaveVariableTypes (ps ++ ls) → HaveVariableTypes ps × HaveVariableTypes ls
  front [] ls w = (tt, w)
  front (p ∷ ps) ls w = let x = front ps ls w.1 in ((w.0, x.0), x.1)

  -- Variables that a typed program writes.
  module _ (c : Context) (ls : List TypedName) where
    written : (x : Var) (t : Ty) → variable_type (erased c) ls x ≡ Some t → VariableNames P x
    written (var.Global m x) t e = tt
    written (var.Local x) t e = tt
    written (var.Glob a) t e = absurd (none-some t e)

    each_written : (xs : List Var) (ts : List Ty) → HaveTypes (erased c) ls xs ts → VariablesName P xs
    each_written [] [] w = tt
    each_written [] (t ∷ ts) w = absurd w
    each_written (x ∷ xs) [] w = absurd w
    each_written (x ∷ xs) (t ∷ ts) w = (written x t w.0, each_written xs ts w.1)

    taken : (xs : List Var) (t : Ty) → Take (erased c) ls xs t → VariablesName P xs
    taken [] t w = tt
    taken (x ∷ []) t w = (written x t w, tt)
    taken (x ∷ y ∷ xs) t w = each_written (x ∷ y ∷ xs) (parts_in t) w

  terms_name : {n : Count} (ts : Row_of-Term n) → TermsName P AnyName ts → EachTermNames P AnyName (terms_in ts)
  terms_name end_of-Term k = tt
  terms_name (more_of-Term t ts) k = (k.0, terms_name ts k.1)

  -- The procedure speaks of modules in P, if it is there.
  abbrev Speaks : ProcedureType → Option Routine → Option Routine → Type 0
  Speaks t x y = NamesIfThere P AnyName x

  abbrev ProcedureSpeaks : Proc → Type 0
  ProcedureSpeaks p = BodySpeaks P p.body.list × TermNames P AnyName p.value

  speaks_narrow : IsNarrow Speaks
  speaks_narrow s t e x y w = w

  -- Typed programs, where the procedures that they call speak of modules in P.
  module _ (g : Setting) (c : Context) (ls : List TypedName) (all : (r : ProcRef) (t : ProcedureType) → procedure c r ≡ Some t → NamesIfThere P AnyName (g.procedure r)) where
    call_names : (xs : List Var) (r : Option Routine) (es : List Term) (p : Program) → VariablesName P xs → NamesIfThere P AnyName r → EachTermNames P AnyName es →
        ProgramNames P AnyName p → ProgramNames P AnyName (called xs r es p)
    call_names xs None es p v n e k = k
    call_names xs (Some r) es p v n e k = (v, n, e, k)

    call_speaks : (xs : List Var) (r : ProcRef) (o : Option ProcedureType) → procedure c r ≡ o → (es : List Term) → IsCall c ls xs o es → EachTermNames P AnyName es →
        (p : Program) → ProgramNames P AnyName p → ProgramNames P AnyName (called xs (g.procedure r) es p)
    call_speaks xs r None e es w k p n = absurd w
    call_speaks xs r (Some t) e es w k p n = call_names xs (g.procedure r) es p (taken c ls xs t.result w.1) (all r t e) k n

    mutual
      statement_names : (i : Instr) → IsStatement c ls i → StatementSpeaks P i → (p : Program) → ProgramNames P AnyName p → ProgramNames P AnyName (statement g i p)
      statement_names (Assign xs e) w k p n = (taken c ls xs (type_of e) w.1, k, n)
      statement_names (Sample x d) w k p n = (written c ls x _ w.2, k, n)
      statement_names (Call' xs r m es) w k p n = call_speaks xs r (procedure c r) refl (terms_in es) w (terms_name es k) p n
      statement_names (If' e m a n b) w k p x = (k.0, row_names a w.1 k.1, row_names b w.2 k.2, x)
      statement_names (While' e v n a) w k p x = (k.0, k.1, row_names a w.2 k.2, x)

      row_names : {n : Count} (is : Row_of-Instr n) → AreStatements c ls is → StatementsSpeak P is → ProgramNames P AnyName (program_of g is)
      row_names end_of-Instr w k = tt
      row_names (more_of-Instr (Assign xs e) is) w k = statement_names (Assign xs e) w.0 k.0 (program_of g is) (row_names is w.1 k.1)
      row_names (more_of-Instr (Sample x d) is) w k = statement_names (Sample x d) w.0 k.0 (program_of g is) (row_names is w.1 k.1)
      row_names (more_of-Instr (Call' xs r m es) is) w k = statement_names (Call' xs r m es) w.0 k.0 (program_of g is) (row_names is w.1 k.1)
      row_names (more_of-Instr (If' e m a n b) is) w k = statement_names (If' e m a n b) w.0 k.0 (program_of g is) (row_names is w.1 k.1)
      row_names (more_of-Instr (While' e v n a) is) w k = statement_names (While' e v n a) w.0 k.0 (program_of g is) (row_names is w.1 k.1)

    body_names : (is : List Instr) → EachStatement c ls is → BodySpeaks P is → ProgramNames P AnyName (statements g is)
    body_names [] w k = tt
    body_names (i ∷ is) w k = statement_names i w.0 k.0 (statements g is) (body_names is w.1 k.1)

  -- linking keeps it
  linking_speaks : (g : Setting) → KeepAlike Speaks (λ c p. ProcedureSpeaks p) (linked_procedure g) (linked_procedure g)
  linking_speaks g c p v w f h calls =
      let b = w.body in
      let l = front p.params p.locals b.locals in
      (locals_apart p.params l.0, locals_apart p.locals l.1, body_names (calling g f) c (locals_of p) calls p.body.list b.statements v.0, v.1)

  -- Programs of abstract modules.
  module _ (g : Setting) (ds : Declarations) (types : Name → Option ModuleType) where
    program_speaks : (t : ModuleType) → SameParams ds types t.params → (w : World) (a : Adversary) → IsProgramFor ds g w t a →
        StandAlike Speaks (of_functor_type (functor_type types (Some t))) (with_oracles t a) (with_oracles t a)
    program_speaks t same w a p fs gs k =
        each_signed Speaks ds g t a (each_linked os a.procedures) (each_linked qs a.procedures) one t.signatures p.procedures
      where
        os : Oracles
        os = oracle_of t.params (map (λ m. m []) fs)

        qs : Oracles
        qs = oracle_of t.params (map (λ m. m []) gs)

        answered : (s : Signature) (o : Oracle) (u : Signature) → callable ds t s o ≡ Some u → NamesIfThere P AnyName (os o)
        answered s o u e =
            answers Speaks ds types t.params (map (λ m. m []) fs) (map (λ m. m []) gs) same
            (given_each Speaks speaks_narrow (map (λ q. signature_types (signatures_of (types q.ty))) t.params) fs gs k) o u (signed_called ds t s o u e)

        both : (s : Signature) (r : Option Routine) → IsProcedureFor g (callable ds t s) a.footprint s r → NamesIfThere P AnyName (option_map (link_routine os) r)
        both s None w = absurd w
        both s (Some r) w = linked-routine-names P g (callable ds t s) os (answered s) a.footprint r w.1

        one : (s : Signature) → IsProcedureFor g (callable ds t s) a.footprint s (found a.procedures s.name) →
            Speaks (typed_as s) (found (each_linked os a.procedures) s.name) (found (each_linked qs a.procedures) s.name)
        one s w = subst (NamesIfThere P AnyName) (sym (found-each_linked os a.procedures s.name)) (both s (found a.procedures s.name) w)

  -- the procedures of a scope
  each_speaks : (c : Context) (m : Module) (ps : List Proc) → ProceduresSpeak P ps → AreInModule (λ c p. ProcedureSpeaks p) c m ps
  each_speaks c m [] k = tt
  each_speaks c m (p ∷ ps) k = ((λ ts. k.0), each_speaks c m ps k.1)

  scope_speaks : (ds : Declarations) (c : Context) → ScopeSpeaks P ds → AreInside (λ c p. ProcedureSpeaks p) c ds
  scope_speaks [] c k = tt
  scope_speaks ((n, concrete_module m) ∷ ds) c k = (each_speaks c m m.procs k.0, scope_speaks ds _ k.1)
  scope_speaks ((n, abstract_type) ∷ ds) c k = scope_speaks ds _ k.1
  scope_speaks ((n, abbreviation x) ∷ ds) c k = scope_speaks ds _ k.1
  scope_speaks ((n, operator o) ∷ ds) c k = scope_speaks ds _ k.1
  scope_speaks ((n, abstract_operator o) ∷ ds) c k = scope_speaks ds _ k.1
  scope_speaks ((n, module_type t) ∷ ds) c k = scope_speaks ds _ k.1
  scope_speaks ((n, abstract_module b) ∷ ds) c k = scope_speaks ds _ k.1
  scope_speaks ((n, axiom_of q) ∷ ds) c k = scope_speaks ds _ k.1
  scope_speaks ((n, lemma q) ∷ ds) c k = scope_speaks ds _ k.1
  scope_speaks ((n, terminating f) ∷ ds) c k = scope_speaks ds _ k.1

  module _ (ds : Declarations) (scoped : IsTypedScope ds) (speaks : ScopeSpeaks P ds) (i : Interpretation) (chosen : IsChosenOver ds i) (h : Setting) where
    abbrev modules : linked.Modules Routine
    modules = linked_modules ds h i.programs

    abbrev base : linked.Modules Routine
    base = with_abstract_programs ds i.programs (λ k. no_module)

    its : (types : Name → Option ModuleType) (t : ModuleType) → SameParams ds types t.params → (a : Adversary) → IsProgramFor ds (setting ds i) i.world t a →
        StandAlike Speaks (of_functor_type (functor_type types (Some t))) (with_oracles t a) (with_oracles t a)
    its types t same a p = program_speaks (setting ds i) ds types t same i.world a p

    all_speak : AreAllAlike Speaks (context_of ds).modules modules modules
    all_speak =
        scope_stands Speaks speaks_narrow (λ c p. ProcedureSpeaks p) (linked_procedure h) (linked_procedure h) (linking_speaks h) ds scoped (scope_speaks ds nothing speaks) base base
        (chosen_alike ds i Speaks (λ x t. with_oracles t x.program) (λ x t. with_oracles t x.program) (λ types t same x e p. its types t same x.program p) base (λ n x e. chosen_program ds i.programs (λ k. no_module) n x e) base (λ n x e. chosen_program ds i.programs (λ k. no_module) n x e)
        scoped chosen)
        modules modules (λ k j e. linked_is ds h i.programs chosen.unchosen k) (λ k j e. linked_is ds h i.programs chosen.unchosen k)

    abbrev under : linked.Modules Routine
    under = linked.modules_of (linked_procedure h) base ds

    binders_speak : (bs : List Bind) (c : Context) → settings.Agree ds c.modules.types → AreAllAlike Speaks c.modules modules modules → AreBinders c bs → AreChosen ds i bs →
        AreAllAlike Speaks (with_modules c bs).modules modules modules
    binders_speak [] c a s w k = s
    binders_speak (b ∷ bs) c a s w k =
        binders_speak bs (with_module c b) a
        (named_alike Speaks speaks_narrow c.modules modules modules s b.name (of_functor_type (functor_type c.modules.types (c.modules.types b.ty)))
        (binder_alike ds i Speaks (λ x t. with_oracles t x.program) (λ x t. with_oracles t x.program) (λ types t same x e p. its types t same x.program p) modules (λ n x e. chosen_program ds i.programs under n x e) modules (λ n x e. chosen_program ds i.programs under n x e)
        c.modules.types a b (let y = w.0 in y.known) k.0)) w.1 k.1

    no_types : settings.Agree ds (nothing.modules).types
    no_types = record { declared = λ n t e. absurd (none-some t e); params = λ n t e. absurd (none-some t e) }

    -- each procedure that has a type, in the context of some binders for which programs are chosen
    pub procedures_speak : (bs : List Bind) → AreBinders (context_of ds) bs → AreChosen ds i bs → (r : ProcRef) (t : ProcedureType) → procedure (with_modules (context_of ds) bs) r ≡ Some t →
        NamesIfThere P AnyName (procedure_at modules r)
    procedures_speak bs w k r t e =
        procedure_alike Speaks speaks_narrow (with_modules (context_of ds) bs).modules modules modules
        (binders_speak bs (context_of ds) (agree_at ds i ds [] nothing refl scoped no_types) all_speak w k) r t e
