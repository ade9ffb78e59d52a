-- Well-typed declarations, and the context that they make.
use Rattle.std.specs.Prelude.{◌≡◌, Bool, false, List, [], ◌∷◌, ◌++◌, map, reverse, Option, Some, None, if◌then◌else◌, bytes_eq}
use Rattle.std.specs.List.{list_any}
use Rattle.gb_core.specs.declared.ty.Ty.{Ty}
use Rattle.gb_core.specs.declared.ty.Ty.TheVariants as ty
use Rattle.gb_core.specs.declared.value.Value.TheVariants.{Num}
use Rattle.gb_terms.specs.declared.decl.TypedName.{TypedName}
use Rattle.gb_terms.specs.declared.decl.Param.{Param}
use Rattle.gb_terms.specs.declared.decl.Proc.{Proc}
use Rattle.gb_terms.specs.declared.decl.Module.{Module}
pub use Rattle.gb_goal.specs.Interfaces.{procedure_types}
use Rattle.gb_meaning.specs.Names.{Name}
use Rattle.gb_meaning.specs.Written.{type_of, local_type}
use Rattle.gb_laws.specs.Plain.{IsPlain}
use Rattle.gb_laws.specs.Finite.{IsVariableType}
use Rattle.gb_laws.specs.Operators.{IsDistributionType}
use Rattle.gb_laws.specs.Typing.{OperatorType, IsLiteral}
use Rattle.gb_laws.specs.Typing.Binder.{value}
use Rattle.gb_meaning.specs.Declared.{Declarations, Declaration, Abbreviated, for_type, for_value, DefinedOperator, ModuleType, Signature, MayCall, every, those, signature_in, abstract_type, abbreviation, operator, abstract_operator, module_type, concrete_module, abstract_module, axiom_of, lemma, terminating}
use Rattle.gb_meaning.specs.Modules.{Procedures, found}
use Rattle.gb_meaning.specs.Naming.{AnyName}
use Rattle.gb_typing.specs.Naming.{NoName, TermNames}
use Rattle.gb_typing.specs.Modules.{ProcedureType, Interface, Modules, params_in, functor_type, of_functor_type, procedure_of, with_interface}
use Rattle.gb_typing.specs.Context.{Context, no_module}
use Rattle.gb_typing.specs.Typing.{IsTyped}
use Rattle.gb_typing.specs.Programs.{HaveVariableTypes, IsProcedure, type_of_procedure}
use Rattle.gb_typing.specs.Formulas.{IsKnown, oracle_in, IsBinder, with_module}
use Rattle.gb_typing.specs.Sequents.{IsTypedSequent}

-- nothing is declared
abbrev pub nothing : Context
nothing = record {
  logical = λ i. None;
  global = λ m x. None;
  operator = λ n. None;
  modules = record { types = λ n. None; interfaces = λ n. None };
  has_globals = no_module;
  own = None;
  left = None;
  right = None;
  named = [];
  bound = [];
  frames = [];
}

-- Operators.

abbrev pub operator_type : DefinedOperator → OperatorType
operator_type o = record { params = o.params; result = type_of o.body }

-- the context of an operator's body: its parameters are bound, the last one innermost
abbrev pub of_operator : Context → List Ty → Context
of_operator c ps = record c {
  logical = λ i. None;
  has_globals = no_module;
  own = None;
  left = None;
  right = None;
  named = [];
  bound = reverse (map value ps);
  frames = map (λ x. None) ps;
}

-- a type of values, or of numbers
abbrev pub IsMeasured : Ty → Type 0
IsMeasured ty.Int = Unit {0}
IsMeasured ty.Real = Unit {0}
IsMeasured t = IsVariableType t

abbrev pub AreMeasured : List Ty → Type 0
AreMeasured [] = Unit {0}
AreMeasured (t ∷ ts) = IsMeasured t × AreMeasured ts

-- what an operator gives: a value, a number or a distribution of values
abbrev pub IsResult : Ty → Type 0
IsResult (ty.Distr' p x) = IsDistributionType (ty.Distr' p x)
IsResult t = IsMeasured t

-- an operator with a body, which speaks of no memory, no procedure and no module
pub record IsDefined (c : Context) (o : DefinedOperator) : Type 0 where
  pub params : AreMeasured o.params
  pub result : IsResult (type_of o.body)
  pub typed : IsTyped (of_operator c o.params) o.body
  pub plain : IsPlain o.body
  pub apart : TermNames NoName AnyName o.body

abbrev pub AreVariableTypes : List Ty → Type 0
AreVariableTypes [] = Unit {0}
AreVariableTypes (t ∷ ts) = IsVariableType t × AreVariableTypes ts

-- Module types.

-- a module of the parameter's type, under its name
abbrev pub with_param : Modules → Param → Modules
with_param ms p = with_interface ms p.name (Some (of_functor_type (functor_type ms.types (ms.types p.ty))))

-- Modules of these types are given, which lack none themselves. No module is known yet under the name of a parameter.
abbrev pub AreParams : Modules → List Param → Type 0
AreParams ms [] = Unit {0}
AreParams ms (p ∷ ps) =
    (IsKnown (ms.types p.ty) × (params_in (ms.types p.ty) ≡ []) × (ms.interfaces p.name ≡ None)) × AreParams (with_param ms p) ps

-- each is an oracle of the parameters
abbrev pub AreOracles : Modules → List Param → MayCall → Type 0
AreOracles ms ps every = Unit {0}
AreOracles ms ps (those []) = Unit {0}
AreOracles ms ps (those (o ∷ os)) = IsKnown (oracle_in ms ps o.parameter o.name) × AreOracles ms ps (those os)

-- signatures of different names
abbrev pub AreSignatures : Modules → List Param → List Signature → Type 0
AreSignatures ms ps [] = Unit {0}
AreSignatures ms ps (s ∷ ss) =
    (HaveVariableTypes s.params × IsVariableType s.result × AreOracles ms ps s.oracles) × (signature_in ss s.name ≡ None) × AreSignatures ms ps ss

pub record IsModuleType (c : Context) (t : ModuleType) : Type 0 where
  pub params : AreParams c.modules t.params
  pub signatures : AreSignatures c.modules t.params t.signatures

-- Modules.

-- modules of the parameters' types, under their names
abbrev pub with_params : Modules → List Param → Modules
with_params ms [] = ms
with_params ms (p ∷ ps) = with_interface (with_params ms ps) p.name (Some (of_functor_type (functor_type ms.types (ms.types p.ty))))

-- a module with these parameters and procedures
abbrev pub interface_with : (Name → Option ModuleType) → List Param → Procedures ProcedureType → Interface
interface_with types ps qs = record { lacks = map (λ p. functor_type types (types p.ty)) ps; procedures = qs }

-- the globals, and those of a further module
abbrev pub with_globals : (Name → Name → Option Ty) → Name → List TypedName → Name → Name → Option Ty
with_globals f n ls m x = if bytes_eq m n then local_type ls x else f m x

-- The context of a module's next procedure: it sees the declarations, the modules of the parameters, and the globals and the
-- earlier procedures of its own module.
abbrev pub in_module : Context → Module → Procedures ProcedureType → Context
in_module c m earlier = record c {
  global = with_globals c.global m.name m.globals;
  modules = with_params (with_interface c.modules m.name (Some (interface_with c.modules.types m.params earlier))) m.params;
}

-- procedures, one after another, each under a name of its own
abbrev pub AreProcedures : Context → Module → Procedures ProcedureType → List Proc → Type 0
AreProcedures c m earlier [] = Unit {0}
AreProcedures c m earlier (p ∷ ps) =
    (found earlier p.name ≡ None) × IsProcedure (in_module c m earlier) p × AreProcedures c m (earlier ++ (p.name, type_of_procedure p) ∷ []) ps

-- each parameter has a module type, and a name under which no module is known yet
abbrev pub AreTaken : Modules → List Param → Type 0
AreTaken ms [] = Unit {0}
AreTaken ms (p ∷ ps) = (IsKnown (ms.types p.ty) × (ms.interfaces p.name ≡ None)) × AreTaken (with_param ms p) ps

-- no two have the same name
abbrev pub HaveOwnNames : List TypedName → Type 0
HaveOwnNames [] = Unit {0}
HaveOwnNames (l ∷ ls) = (local_type ls l.name ≡ None) × HaveOwnNames ls

-- a module, under its name
pub record IsModule (c : Context) (n : Name) (m : Module) : Type 0 where
  pub name : m.name ≡ n
  pub params : AreTaken (with_interface c.modules m.name (Some (interface_with c.modules.types m.params []))) m.params
  pub globals : HaveVariableTypes m.globals
  pub names : HaveOwnNames m.globals
  pub procs : AreProcedures c m [] m.procs

-- Declarations.

abbrev pub with_operator : Context → Name → OperatorType → Context
with_operator c n o = record c { operator = λ k. if bytes_eq k n then Some o else c.operator k }

abbrev pub with_type : Modules → Name → ModuleType → Modules
with_type ms n t = record ms { types = λ k. if bytes_eq k n then Some t else ms.types k }

-- the context with what is declared under a name
abbrev pub with_declared : Context → Name → Declaration → Context
with_declared c n (operator o) = with_operator c n (operator_type o)
with_declared c n (abstract_operator o) = with_operator c n (record { params = o.params; result = o.result })
with_declared c n (module_type t) = record c { modules = with_type c.modules n t }
with_declared c n (concrete_module m) = record c {
  global = with_globals c.global n m.globals;
  modules = with_interface c.modules n (Some (interface_with c.modules.types m.params (procedure_types m.procs)));
}
with_declared c n (abstract_module b) = with_module c b
with_declared c n d = c

-- the context with several declarations, one after another
abbrev pub with_each : Context → Declarations → Context
with_each c [] = c
with_each c (d ∷ ds) = with_each (with_declared c d.0 d.1) ds

-- the context of declarations
abbrev pub context_of : Declarations → Context
context_of ds = with_each nothing ds

-- a module that lacks nothing has this procedure
abbrev pub HasProcedure : Option Interface → Name → Type 0
HasProcedure o f = IsKnown (procedure_of o f)

-- a name stands for a type of values, or for one of its values
abbrev pub IsAbbreviation : Abbreviated → Type 0
IsAbbreviation (for_type t) = IsVariableType t
IsAbbreviation (for_value c) = IsVariableType c.ty × IsLiteral c.ty (Num c.number)

-- what may be declared under a name in a context
abbrev pub IsDeclared : Context → Name → Declaration → Type 0
IsDeclared c n abstract_type = Unit {0}
IsDeclared c n (abbreviation a) = IsAbbreviation a
IsDeclared c n (operator o) = IsDefined c o
IsDeclared c n (abstract_operator o) = AreVariableTypes o.params × IsMeasured o.result
IsDeclared c n (module_type t) = IsModuleType c t
IsDeclared c n (concrete_module m) = IsModule c n m
IsDeclared c n (abstract_module b) = (b.name ≡ n) × IsBinder c b
IsDeclared c n (axiom_of q) = IsTypedSequent c q
IsDeclared c n (lemma q) = IsTypedSequent c q
IsDeclared c n (terminating p) = HasProcedure (c.modules.interfaces p.module) p.name

abbrev pub is_declared : Declarations → Name → Bool
is_declared ds n = list_any (λ d. bytes_eq n d.0) ds

-- no declaration has this name
abbrev pub IsFree : Declarations → Name → Type 0
IsFree before n = is_declared before n ≡ false

-- several declarations after others, in the context of those
abbrev pub AreTypedAfter : Context → Declarations → Declarations → Type 0
AreTypedAfter c before [] = Unit {0}
AreTypedAfter c before (d ∷ ds) = IsFree before d.0 × IsDeclared c d.0 d.1 × AreTypedAfter (with_declared c d.0 d.1) (before ++ d ∷ []) ds

-- A typed scope: each declaration is typed in the context of those before it.
abbrev pub IsTypedScope : Declarations → Type 0
IsTypedScope ds = AreTypedAfter nothing [] ds
