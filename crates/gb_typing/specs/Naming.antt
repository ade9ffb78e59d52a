-- The names in types, terms, programs and forms, and settings that agree on some names.
use Rattle.std.specs.Prelude.{◌≡◌, ◌⊎◌, true, false, bytes_eq, List, [], ◌∷◌, map, Option, Some, None}
use Rattle.std.specs.List.{list_any}
use Rattle.gb_core.specs.declared.ty.Ty.{Ty}
use Rattle.gb_core.specs.declared.var.Var.{Var}
use Rattle.gb_core.specs.declared.var.Var.TheVariants as var
use Rattle.gb_terms.specs.declared.decl.TypedName.{TypedName}
use Rattle.gb_terms.specs.declared.module.Mexp.{Mexp}
use Rattle.gb_terms.specs.declared.module.ProcRef.{ProcRef}
use Rattle.gb_terms.specs.declared.op.Read.TheVariants as read
use Rattle.gb_terms.specs.declared.term.Instr.{Instr}
use Rattle.gb_terms.specs.declared.term.Term.{Term, Term', Row_of-Term, end_of-Term, more_of-Term, end_of-Head, more_of-Head}
use Rattle.gb_terms.specs.declared.term.Head.{Head}
use Rattle.gb_terms.specs.declared.term.Head.TheVariants as head
use Rattle.gb_terms.specs.declared.term.Head.TheVariants.{Proc, Body'}
use Rattle.gb_terms.specs.declared.term.Subject.{Subject}
use Rattle.gb_meaning.specs.Names.{Name}
use Rattle.gb_meaning.specs.Program.{Program, Routine}
use Rattle.gb_meaning.specs.Program.Program.{done, assign, sample, branch, loop, call, ask}
use Rattle.gb_meaning.specs.Program.Routine.{routine}
use Rattle.gb_meaning.specs.Setting.{Setting}
use Rattle.gb_meaning.specs.Commands.{program_of, statements}
use Rattle.gb_meaning.specs.Globs.{EachGlob}
use Rattle.gb_meaning.specs.Declared.{Declarations, Declaration, operator, abstract_operator, module_type, concrete_module, lemma, terminating}
use Rattle.gb_meaning.specs.Naming.{EachName, EachCallIn, EachCallOf, IsFresh}
use Rattle.gb_meaning.specs.Settings.{Chosen}
use Rattle.gb_meaning.specs.Holds.{EachDeclared}
use Rattle.gb_typing.specs.Agreement.{SameFootprint, SameOperator}

-- no name
abbrev pub NoName : Name → Type 0
NoName n = ⊥

-- any name but n
abbrev pub IsOther : Name → Name → Type 0
IsOther n m = bytes_eq m n ≡ false

-- the names under which programs are chosen
abbrev pub chosen_names : List Chosen → List Name
chosen_names cs = map (λ c. c.bind.name) cs

-- one of these names
abbrev pub IsAmong : List Name → Name → Type 0
IsAmong hs n = list_any (bytes_eq n) hs ≡ true

-- A name that stands for none of the declarations es: none of them has it, or a module of one of the names hs hides it.
abbrev pub IsKept : Declarations → List Name → Name → Type 0
IsKept es hs n = IsFresh es n ⊎ IsAmong hs n

-- each module whose globals these types speak of is in P
abbrev pub EachGlobOf : (Name → Type 0) → List TypedName → Type 0
EachGlobOf P [] = Unit {0}
EachGlobOf P (x ∷ xs) = EachGlob P x.ty × EachGlobOf P xs

-- and these types
abbrev pub EachGlobAmong : (Name → Type 0) → List Ty → Type 0
EachGlobAmong P [] = Unit {0}
EachGlobAmong P (t ∷ ts) = EachGlob P t × EachGlobAmong P ts

-- the module whose globals the variable stands for
abbrev pub VariableNames : (Name → Type 0) → Var → Type 0
VariableNames P (var.Glob a) = P a
VariableNames P _ = Unit {0}

abbrev pub VariablesName : (Name → Type 0) → List Var → Type 0
VariablesName P [] = Unit {0}
VariablesName P (x ∷ xs) = VariableNames P x × VariablesName P xs

-- modules that a head and its type name are in P, but for those of procedures, and operators in Q
abbrev pub HeadNames : (Name → Type 0) → (Name → Type 0) → Head → Ty → Type 0
HeadNames P Q (head.Read (read.Program x r)) ty = VariableNames P x × EachGlob P ty
HeadNames P Q (head.Builtin o) ty = EachGlob P ty
HeadNames P Q (head.User n) ty = Q n
HeadNames P Q (head.All u) ty = EachGlob P u
HeadNames P Q (head.Some u) ty = EachGlob P u
HeadNames P Q (head.Glob m r) ty = EachName P m
HeadNames P Q _ ty = Unit {0}

abbrev mutual
  -- each module that the term names is in P, and each operator in Q
  pub TermNames : (Name → Type 0) → (Name → Type 0) → Term → Type 0
  TermNames P Q (Term' p (more_of-Head hd end_of-Head) n ts ty) = HeadNames P Q hd ty × TermsName P Q ts

  pub TermsName : {n : _} → (Name → Type 0) → (Name → Type 0) → Row_of-Term n → Type 0
  TermsName P Q end_of-Term = Unit {0}
  TermsName P Q (more_of-Term t ts) = TermNames P Q t × TermsName P Q ts

-- the same of a list of terms
abbrev pub EachTermNames : (Name → Type 0) → (Name → Type 0) → List Term → Type 0
EachTermNames P Q [] = Unit {0}
EachTermNames P Q (e ∷ es) = TermNames P Q e × EachTermNames P Q es

abbrev mutual
  -- the same of a program, through every procedure that it carries
  pub ProgramNames : (Name → Type 0) → (Name → Type 0) → Program → Type 0
  ProgramNames P Q done = Unit {0}
  ProgramNames P Q (assign xs e c) = VariablesName P xs × TermNames P Q e × ProgramNames P Q c
  ProgramNames P Q (sample x d c) = VariableNames P x × TermNames P Q d × ProgramNames P Q c
  ProgramNames P Q (branch e a b c) = TermNames P Q e × ProgramNames P Q a × ProgramNames P Q b × ProgramNames P Q c
  ProgramNames P Q (loop e v a c) = TermNames P Q e × TermNames P Q v × ProgramNames P Q a × ProgramNames P Q c
  ProgramNames P Q (call xs r es c) = VariablesName P xs × RoutineNames P Q r × EachTermNames P Q es × ProgramNames P Q c
  ProgramNames P Q (ask xs o es c) = ProgramNames P Q c

  pub RoutineNames : (Name → Type 0) → (Name → Type 0) → Routine → Type 0
  RoutineNames P Q (routine ps ls c r) = EachGlobOf P ps × EachGlobOf P ls × ProgramNames P Q c × TermNames P Q r

-- the same of a procedure, if it is there
abbrev pub NamesIfThere : (Name → Type 0) → (Name → Type 0) → Option Routine → Type 0
NamesIfThere P Q None = Unit {0}
NamesIfThere P Q (Some r) = RoutineNames P Q r

-- the names of a reference to a procedure, and those in the procedure that it means
abbrev pub ProcedureNames : (Name → Type 0) → (Name → Type 0) → Setting → ProcRef → Type 0
ProcedureNames P Q g p = EachName P p.«module» × NamesIfThere P Q (g.procedure p)

-- those of a body
abbrev pub BodyNames : (Name → Type 0) → (Name → Type 0) → Setting → List Instr → Type 0
BodyNames P Q g is = EachCallOf (λ p. EachName P p.«module») is × ProgramNames P Q (statements g is)

-- those of what a judgment speaks of
abbrev pub SubjectNames : (Name → Type 0) → (Name → Type 0) → Setting → Subject → Type 0
SubjectNames P Q g (Proc p) = ProcedureNames P Q g p
SubjectNames P Q g (Body' n is) = EachCallIn (λ p. EachName P p.«module») is × ProgramNames P Q (program_of g is)

-- those of the programs of a head
abbrev pub JudgedNames : (Name → Type 0) → (Name → Type 0) → Setting → Head → Type 0
JudgedNames P Q g (head.Pr p r) = ProcedureNames P Q g p
JudgedNames P Q g (head.Hoare c) = SubjectNames P Q g c
JudgedNames P Q g (head.Phoare c r) = SubjectNames P Q g c
JudgedNames P Q g (head.Equiv c d) = SubjectNames P Q g c × SubjectNames P Q g d
JudgedNames P Q g _ = Unit {0}

abbrev mutual
  -- the same of a form, through every procedure that it names
  pub FormNames : (Name → Type 0) → (Name → Type 0) → Setting → Term → Type 0
  FormNames P Q g (Term' p (more_of-Head hd end_of-Head) n ts ty) = HeadNames P Q hd ty × JudgedNames P Q g hd × FormsName P Q g ts

  pub FormsName : {n : _} → (Name → Type 0) → (Name → Type 0) → Setting → Row_of-Term n → Type 0
  FormsName P Q g end_of-Term = Unit {0}
  FormsName P Q g (more_of-Term t ts) = FormNames P Q g t × FormsName P Q g ts

-- Two settings agree on names: types have the same sizes, what names modules in P alone means the same, and so do the
-- operators in Q.
pub record AgreeOn (P Q : Name → Type 0) (g h : Setting) : Type 0 where
  pub sizes : g.types.size ≡ h.types.size
  pub footprints : (m : Mexp) → EachName P m → SameFootprint g.types h.types m
  pub operators : (n : Name) → Q n → SameOperator g h n
  pub procedures : (p : ProcRef) → EachName P p.«module» → g.procedure p ≡ h.procedure p

-- a module, a module type, a lemma, or that loops are proved
abbrev pub IsModuleOrStatement : Declaration → Type 0
IsModuleOrStatement (concrete_module m) = Unit {0}
IsModuleOrStatement (module_type t) = Unit {0}
IsModuleOrStatement (lemma q) = Unit {0}
IsModuleOrStatement (terminating f) = Unit {0}
IsModuleOrStatement _ = ⊥

-- all are modules or statements
abbrev pub AreModulesOrStatements : Declarations → Type 0
AreModulesOrStatements ds = EachDeclared IsModuleOrStatement ds

-- the same of the body of an operator, and of the types of one without a body
abbrev pub OperatorNames : (Name → Type 0) → (Name → Type 0) → Declaration → Type 0
OperatorNames P Q (operator o) = TermNames P Q o.body
OperatorNames P Q (abstract_operator o) = EachGlobAmong P o.params × EachGlob P o.result
OperatorNames P Q _ = Unit {0}

-- the same of all operators
abbrev pub OperatorsName : (Name → Type 0) → (Name → Type 0) → Declarations → Type 0
OperatorsName P Q [] = Unit {0}
OperatorsName P Q (d ∷ ds) = OperatorNames P Q d.1 × OperatorsName P Q ds
