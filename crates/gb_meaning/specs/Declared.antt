-- The declarations of a script, as plain lists.
use Rattle.std.specs.Prelude.{List, [], ◌∷◌, Option, Some, None, if◌then◌else◌, bytes_eq}
use Rattle.gb_core.specs.declared.ty.Ty.{Ty}
use Rattle.gb_terms.specs.declared.decl.Module.{Module}
use Rattle.gb_terms.specs.declared.module.Bind.{Bind}
use Rattle.gb_terms.specs.declared.term.Term.{Term}
pub use Rattle.gb_goal.specs.declared.module_type.MayCall.{MayCall}
pub use Rattle.gb_goal.specs.declared.module_type.MayCall.TheVariants.{Every as every, Those as those}
pub use Rattle.gb_goal.specs.declared.module_type.ModuleType.{ModuleType}
pub use Rattle.gb_goal.specs.declared.module_type.Signature.{Signature}
use Rattle.gb_goal.specs.declared.sequent.Sequent.{Sequent}
use Rattle.gb_goal.specs.declared.scope.Constant.{Constant}
use Rattle.gb_goal.specs.declared.scope.Entry.{Entry}
use Rattle.gb_goal.specs.declared.scope.ProcName.{ProcName}
use Rattle.gb_goal.specs.declared.scope.Entry.TheVariants as entry
use Rattle.gb_goal.specs.Scope as scope
use Rattle.gb_meaning.specs.Names.{Name}

-- an operator with a body, in which the parameters, of these types, are the innermost bound variables, the last one first
pub record DefinedOperator : Type 0 where
  pub params : List Ty
  pub body : Term

-- an operator without a body, which stands for any function from values of these types to values of its result
pub record AbstractOperator : Type 0 where
  pub params : List Ty
  pub result : Ty

-- what a name stands for: a type, as an enumeration, or a value, as a constant of an enumeration
pub data Abbreviated : Type 0 where
  for_type : Ty → Abbreviated
  for_value : Constant → Abbreviated

-- What is declared under a name.
pub data Declaration : Type 0 where
  abstract_type : Declaration
  -- Typed trees have what the name stands for in its place, so that no meaning rests on it.
  abbreviation : Abbreviated → Declaration
  operator : DefinedOperator → Declaration
  abstract_operator : AbstractOperator → Declaration
  module_type : ModuleType → Declaration
  concrete_module : Module → Declaration
  -- a module that an open section declares, or that a lemma binds whose proof is open
  abstract_module : Bind → Declaration
  axiom_of : Sequent → Declaration
  lemma : Sequent → Declaration
  -- the loops of this procedure are proved; the name is what a script writes for the procedure
  terminating : ProcName → Declaration

-- what is declared, in order, each with its name
abbrev pub Declarations : Type 0
Declarations = List (Name × Declaration)

-- what the entry of a scope declares
abbrev pub declaration_of : Entry → Declaration
declaration_of (entry.Module m) = concrete_module m
declaration_of (entry.Lemma s bs) = lemma s
declaration_of (entry.Type t) = abbreviation (for_type t)
declaration_of entry.AbstractType = abstract_type
declaration_of (entry.Constant c) = abbreviation (for_value c)
declaration_of (entry.Operator o) = operator (record { params = o.params; body = o.body })
declaration_of (entry.ModuleType t) = module_type t
declaration_of (entry.AbstractModule b) = abstract_module b
declaration_of (entry.AbstractOperator o) = abstract_operator (record { params = o.params; result = o.result })
declaration_of (entry.Terminating p) = terminating p

-- the declarations of a scope
abbrev pub declared : scope.Declarations → Declarations
declared [] = []
declared (d ∷ ds) = (d.0, declaration_of d.1) ∷ declared ds

-- the module type that is declared
abbrev pub module_type_in : Declaration → Option ModuleType
module_type_in (module_type t) = Some t
module_type_in _ = None

-- the module type of this name
abbrev pub module_type_of : Declarations → Name → Option ModuleType
module_type_of [] n = None
module_type_of (d ∷ ds) n = if bytes_eq n d.0 then module_type_in d.1 else module_type_of ds n

-- the signature of this name
abbrev pub signature_in : List Signature → Name → Option Signature
signature_in [] n = None
signature_in (s ∷ ss) n = if bytes_eq n s.name then Some s else signature_in ss n

-- the module that is declared
abbrev pub module_in : Declaration → Option Module
module_in (concrete_module m) = Some m
module_in _ = None

-- the declared module of this name
abbrev pub module_named : Declarations → Name → Option Module
module_named [] n = None
module_named (d ∷ ds) n = if bytes_eq n d.0 then module_in d.1 else module_named ds n
