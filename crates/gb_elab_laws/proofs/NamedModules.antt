-- The modules of a typed scope name declared modules and their own parameters, and no others.
use Rattle.std.proofs.Common.{◌≡◌, ◌⊎◌, inl, inr, Bool, true, false, ◌||◌, if◌then◌else◌, List, [], ◌∷◌, ◌++◌, Option, Some, None, bytes_eq, refl, sym, subst}
use Rattle.std.specs.List.{list_any}
use Rattle.std.proofs.lemmas.List.{append_assoc}
use Rattle.std.proofs.lemmas.Slice.Eq.{bytes_eq-Decides}
use Rattle.gb_core.specs.declared.ty.Ty.{Ty}
use Rattle.gb_core.specs.declared.var.Var.{Var}
use Rattle.gb_terms.specs.declared.decl.Module.{Module}
use Rattle.gb_terms.specs.declared.decl.Param.{Param}
use Rattle.gb_terms.specs.declared.decl.Proc.{Proc}
use Rattle.gb_terms.specs.declared.decl.TypedName.{TypedName}
use Rattle.gb_terms.specs.declared.module.ProcRef.{ProcRef}
use Rattle.gb_terms.specs.declared.op.Read.TheVariants as read
use Rattle.gb_terms.specs.declared.term.Term.{Term, Term', Row_of-Term, end_of-Term, more_of-Term, end_of-Head, more_of-Head}
use Rattle.gb_terms.specs.declared.term.Head.{Head}
use Rattle.gb_terms.specs.declared.term.Head.TheVariants as head
use Rattle.gb_terms.specs.declared.term.Head.TheVariants.{Assign, Sample, Call', If', While'}
use Rattle.gb_terms.specs.declared.term.Instr.{Instr, Row_of-Instr, end_of-Instr, more_of-Instr}
use Rattle.gb_meaning.specs.Commands.{terms_in}
use Rattle.gb_meaning.specs.Names.{Name}
use Rattle.gb_meaning.specs.Written.{type_of}
use Rattle.gb_meaning.specs.Declared.{Declarations, Declaration, abstract_type, abbreviation, operator, abstract_operator, module_type, concrete_module, abstract_module, axiom_of, lemma, terminating}
use Rattle.gb_meaning.specs.Footprints.{body_touched, head_variables, touched, touched_in, variables, variables_in}
use Rattle.gb_meaning.specs.Modules.{Procedures}
use Rattle.gb_meaning.specs.Naming.{AnyName, EachName}
use Rattle.gb_typing.specs.Added.{CodeNames, CodesName, ModulesName, param_names}
use Rattle.gb_typing.specs.Context.{Context, procedure}
use Rattle.gb_typing.specs.Formulas.{IsKnown}
use Rattle.gb_typing.specs.Modules.{Modules, ProcedureType, functor_type, of_functor_type, with_interface}
use Rattle.gb_typing.specs.Naming.{HeadNames, IsAmong, TermNames, TermsName, VariablesName}
use Rattle.gb_typing.specs.Programs.{AreStatements, EachStatement, IsProcedure, IsStatement, locals_of, type_of_procedure}
use Rattle.gb_typing.specs.Scopes.{AreProcedures, AreTypedAfter, in_module, interface_with, is_declared, with_params}
use Rattle.gb_typing.specs.Typing.{IsThere}
use Rattle.gb_typing.proofs.Calls.{each_call}
use Rattle.gb_typing.proofs.KeptNames.{each-name}
use Rattle.gb_typing.proofs.ModulesAlike.{body-map}
use Rattle.gb_elab_laws.specs.Speaking.{BodySpeaks, ProceduresSpeak, ScopeSpeaks, StatementSpeaks, StatementsSpeak}
use Rattle.gb_elab_laws.proofs.LinkedNames.{taken, taken_called, written}
use Rattle.gb_elab_laws.proofs.NamedForms.{reference_known}
use Rattle.gb_elab_laws.proofs.Staying.{AllDeclared, declared_last, declared_more, one_declared, or_first}
use mathlib.Core.Former.{Count}

module _ (P : Name → Type 0) where
  -- the variables of a body, where it speaks of the globals of modules in P alone

  append : (xs ys : List Var) → VariablesName P xs → VariablesName P ys → VariablesName P (xs ++ ys)
  append [] ys h k = k
  append (x ∷ xs) ys h k = (h.0, append xs ys h.1 k)

  head_reads : (h : Head) (t : Ty) → HeadNames P AnyName h t → VariablesName P (head_variables h)
  head_reads (head.Read (read.Program x r)) t k = (k.0, tt)
  head_reads (head.Read (read.Logical i)) t k = tt
  head_reads _ t k = tt

  mutual
    term_reads : (t : Term) → TermNames P AnyName t → VariablesName P (variables t)
    term_reads (Term' b (more_of-Head h end_of-Head) n ts ty) k = append (head_variables h) (variables_in ts) (head_reads h ty k.0) (terms_read ts k.1)

    terms_read : {n : Count} (ts : Row_of-Term n) → TermsName P AnyName ts → VariablesName P (variables_in ts)
    terms_read end_of-Term k = tt
    terms_read (more_of-Term t ts) k = append (variables t) (variables_in ts) (term_reads t k.0) (terms_read ts k.1)

  module _ (c : Context) (ls : List TypedName) where
    abbrev none : ProcRef → Option (List Var)
    none r = None

    mutual
      statement_touches : (i : Instr) → IsStatement c ls i → StatementSpeaks P i → VariablesName P (touched none i)
      statement_touches (Assign xs e) w k = append xs (variables e) (taken P c ls xs (type_of e) w.1) (term_reads e k)
      statement_touches (Sample x d) w k = (written P c ls x _ w.2, term_reads d k)
      statement_touches (Call' xs p n es) w k =
          append (xs ++ variables_in es) [] (append xs (variables_in es) (taken_called P c ls xs (procedure c p) (terms_in es) w) (terms_read es k)) tt
      statement_touches (If' e m a n b) w k =
          append (variables e ++ touched_in none a) (touched_in none b) (append (variables e) (touched_in none a) (term_reads e k.0) (row_touches a w.1 k.1))
          (row_touches b w.2 k.2)
      statement_touches (While' e v n a) w k =
          append (variables e ++ variables v) (touched_in none a) (append (variables e) (variables v) (term_reads e k.0) (term_reads v k.1)) (row_touches a w.2 k.2)

      row_touches : {n : Count} (is : Row_of-Instr n) → AreStatements c ls is → StatementsSpeak P is → VariablesName P (touched_in none is)
      row_touches end_of-Instr w k = tt
      row_touches (more_of-Instr i is) w k = append (touched none i) (touched_in none is) (statement_touches i w.0 k.0) (row_touches is w.1 k.1)

    body_touches : (is : List Instr) → EachStatement c ls is → BodySpeaks P is → VariablesName P (body_touched none is)
    body_touches [] w k = tt
    body_touches (i ∷ is) w k = append (touched none i) (body_touched none is) (statement_touches i w.0 k.0) (body_touches is w.1 k.1)

  -- what a name inside of a module stands for

  or_second : (a b : Bool) → b ≡ true → (a || b) ≡ true
  or_second true b e = refl
  or_second false b e = e

  by_params : (ms : Modules) (ps : List Param) (k : Name) → IsKnown ((with_params ms ps).interfaces k) → IsKnown (ms.interfaces k) ⊎ IsAmong (param_names ps) k
  by_params ms [] k h = inl h
  by_params ms (p ∷ ps) k h = step (bytes_eq k p.name) refl h (by_params ms ps k)
    where
      further : IsKnown (ms.interfaces k) ⊎ IsAmong (param_names ps) k → IsKnown (ms.interfaces k) ⊎ IsAmong (param_names (p ∷ ps)) k
      further (inl x) = inl x
      further (inr x) = inr (or_second (bytes_eq k p.name) (list_any (bytes_eq k) (param_names ps)) x)

      step : (b : Bool) → bytes_eq k p.name ≡ b → IsKnown (if b then Some (of_functor_type (functor_type ms.types (ms.types p.ty))) else (with_params ms ps).interfaces k) →
          (IsKnown ((with_params ms ps).interfaces k) → IsKnown (ms.interfaces k) ⊎ IsAmong (param_names ps) k) → IsKnown (ms.interfaces k) ⊎ IsAmong (param_names (p ∷ ps)) k
      step true e h go = inr (or_first (bytes_eq k p.name) (list_any (bytes_eq k) (param_names ps)) e)
      step false e h go = further (go h)

  module _ (c : Context) (m : Module) (known : (k : Name) → IsKnown (c.modules.interfaces k) → P k) (own : P m.name) where
    abbrev Seen : Name → Type 0
    Seen k = P k ⊎ IsAmong (param_names m.params) k

    inside : (earlier : Procedures ProcedureType) (k : Name) → IsKnown ((in_module c m earlier).modules.interfaces k) → Seen k
    inside earlier k h = by_name (by_params (with_interface c.modules m.name (Some (interface_with c.modules.types m.params earlier))) m.params k h)
      where
        itself : (b : Bool) → bytes_eq k m.name ≡ b → IsKnown (if b then Some (interface_with c.modules.types m.params earlier) else c.modules.interfaces k) → P k
        itself true e x = subst P (sym ((bytes_eq-Decides k m.name).0 e)) own
        itself false e x = known k x

        by_name : IsKnown (if bytes_eq k m.name then Some (interface_with c.modules.types m.params earlier) else c.modules.interfaces k) ⊎ IsAmong (param_names m.params) k → Seen k
        by_name (inl x) = inl (itself (bytes_eq k m.name) refl x)
        by_name (inr x) = inr x

    module _ (earlier : Procedures ProcedureType) where
      abbrev seen : Context
      seen = in_module c m earlier

      abbrev Knows : ProcRef → Type 0
      Knows r = EachName (λ n. IsKnown (seen.modules.interfaces n)) r.«module»

      knows : (r : ProcRef) (t : ProcedureType) → procedure seen r ≡ Some t → Knows r
      knows r t e = reference_known seen r (subst IsThere (sym e) tt)

      code_names : (p : Proc) → IsProcedure seen p → BodySpeaks P p.body.list × TermNames P AnyName p.value → CodeNames P m.params p
      code_names p w k = (
        body-map Knows (λ r. EachName Seen r.«module») (λ r x. each-name (λ n. IsKnown (seen.modules.interfaces n)) Seen (inside earlier) r.«module» x) p.body.list
            (each_call seen (locals_of p) Knows knows p.body.list (let b = w.body in b.statements)),
        append (body_touched (λ r. None) p.body.list) (variables p.value) (body_touches seen (locals_of p) p.body.list (let b = w.body in b.statements) k.0)
            (term_reads p.value k.1),
      )

    codes_name : (ps : List Proc) (earlier : Procedures ProcedureType) → AreProcedures c m earlier ps → ProceduresSpeak P ps → CodesName P m.params ps
    codes_name [] earlier w k = tt
    codes_name (p ∷ ps) earlier w k = (code_names earlier p w.1 k.0, codes_name ps (earlier ++ (p.name, type_of_procedure p) ∷ []) w.2 k.1)

  -- what is declared is in P
  abbrev AllIn : Declarations → Type 0
  AllIn ds = (k : Name) → is_declared ds k ≡ true → P k

  back : (before : Declarations) (d : Name × Declaration) (ds : Declarations) → AllIn (before ++ d ∷ ds) → AllIn ((before ++ d ∷ []) ++ ds)
  back before d ds f k e = f k (subst (λ z. is_declared z k ≡ true) (append_assoc before (d ∷ []) ds) e)

  here : (before : Declarations) (n : Name) (d : Declaration) (ds : Declarations) → AllIn (before ++ (n, d) ∷ ds) → P n
  here before n d ds f =
      back before (n, d) ds f n (declared_more (before ++ (n, d) ∷ []) ds n (declared_last before n d n ((bytes_eq-Decides n n).1 refl)))

  pub modules_name : (ds before : Declarations) (c : Context) → AreTypedAfter c before ds → AllDeclared before c → AllIn (before ++ ds) → ScopeSpeaks P ds → ModulesName P ds
  modules_name [] before c w a f k = tt
  modules_name ((n, concrete_module m) ∷ ds) before c w a f k = (
    codes_name c m (λ j h. f j (declared_more before ((n, concrete_module m) ∷ ds) j (a j h))) (subst P (sym (let x = w.1 in x.name)) (here before n (concrete_module m) ds f))
        m.procs [] (let x = w.1 in x.procs) k.0,
    modules_name ds _ _ w.2 (one_declared before n (concrete_module m) c w.1 a) (back before (n, concrete_module m) ds f) k.1,
  )
  modules_name ((n, abstract_type) ∷ ds) before c w a f k = modules_name ds _ _ w.2 (one_declared before n abstract_type c w.1 a) (back before (n, abstract_type) ds f) k.1
  modules_name ((n, abbreviation s) ∷ ds) before c w a f k = modules_name ds _ _ w.2 (one_declared before n (abbreviation s) c w.1 a) (back before (n, abbreviation s) ds f) k.1
  modules_name ((n, operator o) ∷ ds) before c w a f k = modules_name ds _ _ w.2 (one_declared before n (operator o) c w.1 a) (back before (n, operator o) ds f) k.1
  modules_name ((n, abstract_operator o) ∷ ds) before c w a f k =
      modules_name ds _ _ w.2 (one_declared before n (abstract_operator o) c w.1 a) (back before (n, abstract_operator o) ds f) k.1
  modules_name ((n, module_type t) ∷ ds) before c w a f k = modules_name ds _ _ w.2 (one_declared before n (module_type t) c w.1 a) (back before (n, module_type t) ds f) k.1
  modules_name ((n, abstract_module b) ∷ ds) before c w a f k =
      modules_name ds _ _ w.2 (one_declared before n (abstract_module b) c w.1 a) (back before (n, abstract_module b) ds f) k.1
  modules_name ((n, axiom_of q) ∷ ds) before c w a f k = modules_name ds _ _ w.2 (one_declared before n (axiom_of q) c w.1 a) (back before (n, axiom_of q) ds f) k.1
  modules_name ((n, lemma q) ∷ ds) before c w a f k = modules_name ds _ _ w.2 (one_declared before n (lemma q) c w.1 a) (back before (n, lemma q) ds f) k.1
  modules_name ((n, terminating x) ∷ ds) before c w a f k = modules_name ds _ _ w.2 (one_declared before n (terminating x) c w.1 a) (back before (n, terminating x) ds f) k.1
