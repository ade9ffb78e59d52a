-- Declarations that are added at the end of a scope, and named by nothing that stands before.
use Rattle.std.specs.Prelude.{◌≡◌, ◌⊎◌, true, List, [], ◌∷◌, ◌++◌, map, bytes_eq, Option, Some, None}
use Rattle.std.specs.List.{list_any}
use Rattle.gb_terms.specs.declared.decl.Module.{Module}
use Rattle.gb_terms.specs.declared.decl.Param.{Param}
use Rattle.gb_terms.specs.declared.decl.Proc.{Proc}
use Rattle.gb_terms.specs.declared.module.Bind.{Bind}
use Rattle.gb_goal.specs.Scope.{proc_of}
use Rattle.gb_goal.specs.declared.sequent.Sequent.{Sequent}
use Rattle.gb_meaning.specs.Names.{Name}
use Rattle.gb_meaning.specs.Declared.{Declarations, Declaration, operator, abstract_operator, module_type, concrete_module, abstract_module, module_named}
use Rattle.gb_meaning.specs.Footprints.{variables, body_touched}
use Rattle.gb_meaning.specs.Settings.{Interpretation, setting}
use Rattle.gb_meaning.specs.Naming.{AnyName, EachName, EachCallOf, IsFresh, IsTypeIn}
use Rattle.gb_meaning.specs.Holds.{InEachModel, EachArgument, declared_modules}
use Rattle.gb_typing.specs.Naming.{NoName, IsOther, IsAmong, VariablesName, BodyNames, OperatorsName}
use Rattle.gb_typing.specs.Formed.{IsKeptIn, IsSequentApart, IsScopeApart}

-- an operator, with a body or without
abbrev pub IsOperator : Declaration → Type 0
IsOperator (operator o) = Unit {0}
IsOperator (abstract_operator o) = Unit {0}
IsOperator _ = ⊥

-- An operator that is added: its name is new, no operator before it names it, and no operator speaks of modules.
abbrev pub IsNewOperator : Declarations → Name → Declaration → Type 0
IsNewOperator ds n d = IsFresh ds n × OperatorsName NoName (IsOther n) (ds ++ (n, d) ∷ [])

-- the body of a procedure, if it is there, names none of the declarations
abbrev pub IsBodyApart : Declarations → Declarations → Option Proc → Interpretation → Type 0
IsBodyApart es ds None i = Unit {0}
IsBodyApart es ds (Some p) i = BodyNames (IsKeptIn es i) AnyName (setting ds i) p.body.list

-- the module types of parameters are none of the declarations
abbrev pub AreParamsApart : Declarations → Declarations → List Param → Type 0
AreParamsApart es ds [] = Unit {0}
AreParamsApart es ds (p ∷ ps) = IsTypeIn (IsFresh es) ds p.ty × AreParamsApart es ds ps

-- the same of a procedure of a module, in each model and with any programs in place of its parameters
abbrev pub IsProcedureApart : Declarations → Declarations → Option Module → Name → Type 0
IsProcedureApart es ds None f = Unit {0}
IsProcedureApart es ds (Some m) f =
    AreParamsApart es ds m.params × InEachModel ds (λ i. EachArgument ds m.params i (IsBodyApart es ds (proc_of m.procs f)))

-- the procedure f of the module n names none of the declarations, and the name n stays that module's
abbrev pub AreLoopsApart : Name → Name → Declarations → Declarations → Type 0
AreLoopsApart n f es ds = (module_named (ds ++ es) n ≡ module_named ds n) × IsProcedureApart es ds (module_named ds n) f

-- the sequent names none of the declarations
abbrev pub IsSequentApartIn : Sequent → Declarations → Declarations → Type 0
IsSequentApartIn q es ds = InEachModel ds (IsSequentApart es ds q)

-- the names of parameters
abbrev pub param_names : List Param → List Name
param_names ps = map (λ p. p.name) ps

-- a procedure calls modules in P and parameters of its own module, and reads and writes the globals of modules in P alone,
-- where it names a module for all its globals
abbrev pub CodeNames : (Name → Type 0) → List Param → Proc → Type 0
CodeNames P ps p =
    EachCallOf (λ r. EachName (λ n. P n ⊎ IsAmong (param_names ps) n) r.«module») p.body.list
    × VariablesName P (body_touched (λ r. None) p.body.list ++ variables p.value)

-- so do all procedures of a module
abbrev pub CodesName : (Name → Type 0) → List Param → List Proc → Type 0
CodesName P ps [] = Unit {0}
CodesName P ps (q ∷ qs) = CodeNames P ps q × CodesName P ps qs

-- and all modules of a scope
abbrev pub ModulesName : (Name → Type 0) → Declarations → Type 0
ModulesName P [] = Unit {0}
ModulesName P ((n, concrete_module m) ∷ ds) = CodesName P m.params m.procs × ModulesName P ds
ModulesName P (d ∷ ds) = ModulesName P ds

-- none of the binders has the name of one of the declarations
abbrev pub AreBoundApart : Declarations → List Bind → Type 0
AreBoundApart es [] = Unit {0}
AreBoundApart es (b ∷ bs) = IsFresh es b.name × AreBoundApart es bs

-- An abstract module that is added: it is bound under the name under which it is declared, which no module of the scope
-- names, and no other module of an open section has.
pub record IsNewModule (ds : Declarations) (n : Name) (b : Bind) : Type 0 where
  pub name : b.name ≡ n
  pub modules : ModulesName (IsFresh ((n, abstract_module b) ∷ [])) ds
  pub bound : AreBoundApart ((n, abstract_module b) ∷ []) (declared_modules ds)

-- a declaration has this name
abbrev pub IsDeclared : Declarations → Name → Type 0
IsDeclared ds n = list_any (λ d. bytes_eq n d.0) ds ≡ true

-- each abstract module is bound under the name under which it is declared
abbrev pub AreBoundAsDeclared : Declarations → Type 0
AreBoundAsDeclared [] = Unit {0}
AreBoundAsDeclared ((n, abstract_module b) ∷ ds) = (b.name ≡ n) × AreBoundAsDeclared ds
AreBoundAsDeclared (d ∷ ds) = AreBoundAsDeclared ds

-- A scope as scripts make it: its modules name what it declares and their own parameters, and its abstract modules are
-- bound under their names.
pub record IsClosedScope (ds : Declarations) : Type 0 where
  pub modules : ModulesName (IsDeclared ds) ds
  pub binders : AreBoundAsDeclared ds

-- A declaration that may be added: an operator is new, and a module or a module type is named neither by the scope nor by
-- what C looks at; an abstract module isn't named by the scope's modules either.
abbrev pub IsAdded : (Declarations → Declarations → Type 0) → Declarations → Name → Declaration → Type 0
IsAdded C ds n (operator o) = IsNewOperator ds n (operator o)
IsAdded C ds n (abstract_operator o) = IsNewOperator ds n (abstract_operator o)
IsAdded C ds n (concrete_module m) = IsScopeApart ((n, concrete_module m) ∷ []) ds × C ((n, concrete_module m) ∷ []) ds
IsAdded C ds n (module_type t) = IsScopeApart ((n, module_type t) ∷ []) ds × C ((n, module_type t) ∷ []) ds
IsAdded C ds n (abstract_module b) =
    IsNewModule ds n b × IsScopeApart ((n, abstract_module b) ∷ []) ds × C ((n, abstract_module b) ∷ []) ds
IsAdded C ds n _ = Unit {0}

-- declarations that are added one after another
abbrev pub AreAdded : (Declarations → Declarations → Type 0) → Declarations → Declarations → Type 0
AreAdded C ds [] = Unit {0}
AreAdded C ds (d ∷ es) = IsAdded C ds d.0 d.1 × AreAdded C (ds ++ d ∷ []) es

-- declarations beside a sequent
abbrev pub AreAddedTo : Declarations → Declarations → Sequent → Type 0
AreAddedTo ds es q = AreAdded (IsSequentApartIn q) ds es

-- declarations beside the loops of a procedure f of the module n
abbrev pub AreAddedToLoops : Declarations → Declarations → Name → Name → Type 0
AreAddedToLoops ds es n f = AreAdded (AreLoopsApart n f) ds es
