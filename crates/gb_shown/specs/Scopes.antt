-- Scopes and places of forms in which names are names of the language and numbers are in range.
use Rattle.std.specs.Prelude.{◌≡◌, true, List, [], Option, Some, None}
use Rattle.std.specs.List.{AllByRecursion}
use Rattle.gb_core.specs.declared.ty.Ty.{Ty, out-Ty}
use Rattle.gb_terms.specs.declared.decl.Module.{Module}
use Rattle.gb_terms.specs.declared.decl.Param.{Param}
use Rattle.gb_terms.specs.declared.decl.Proc.{Proc}
use Rattle.gb_terms.specs.declared.decl.TypedName.{TypedName}
use Rattle.gb_goal.specs.Interfaces.{Interface, Procedures, ProcedureType}
use Rattle.gb_goal.specs.Scope.{Declarations}
use Rattle.gb_goal.specs.declared.module_type.MayCall.{MayCall}
use Rattle.gb_goal.specs.declared.module_type.MayCall.TheVariants.{Every, Those}
use Rattle.gb_goal.specs.declared.module_type.ModuleType.{ModuleType}
use Rattle.gb_goal.specs.declared.module_type.Oracle.{Oracle}
use Rattle.gb_goal.specs.declared.module_type.Signature.{Signature}
use Rattle.gb_goal.specs.declared.scope.Entry.{Entry}
use Rattle.gb_goal.specs.declared.scope.Entry.TheVariants as entry
use Rattle.gb_goal.specs.declared.sequent.Sequent.{Sequent}
use Rattle.gb_names.specs.Environment.{Environment}
use Rattle.gb_names.specs.declared.bindings.Binding.{Binding}
use Rattle.gb_names.specs.declared.bindings.Kind.{Kind}
use Rattle.gb_names.specs.declared.bindings.Kind.TheVariants.{Value, Memory}
use Rattle.gb_names.specs.declared.setting.Variables.{Variables}
use Rattle.gb_names.specs.declared.setting.Variables.TheVariants.{Absent, Own, Sides}
use Rattle.gb_print_names.specs.declared.bound_names.Enumeration.{Enumeration}
use Rattle.gb_print.specs.Written.{is_name_text, is_path, is_word_here, IsWrittenType}
use Rattle.gb_shown.specs.Named.{IsNamedType, IsNamedResult, IsNamed, IsNamedVariable, IsNamedBind, IsNamedSequent}
use Rattle.gb_shown.specs.Rules.{HasFirst, IsNamedProcedure}

-- What is declared.

-- a procedure of a module
pub record IsNamedMember (es : List Enumeration) (p : Proc) : Type 0 where
  pub name : is_name_text p.name ≡ true
  pub procedure : IsNamedProcedure es p

-- a parameter of a module, under which procedures of the module call those of the module that is given for it
abbrev pub IsNamedParam : Param → Type 0
IsNamedParam q = is_name_text q.name ≡ true

pub record IsNamedModule (es : List Enumeration) (m : Module) : Type 0 where
  pub name : is_name_text m.name ≡ true
  pub params : AllByRecursion IsNamedParam m.params
  pub globals : AllByRecursion IsNamedVariable m.globals
  pub procs : AllByRecursion (IsNamedMember es) m.procs

-- the types of a procedure: those of its parameters, each with its name, and that of its result
pub record IsNamedProcedureType (t : ProcedureType) : Type 0 where
  pub params : AllByRecursion IsNamedVariable t.params
  pub result : IsNamedType t.result

-- a procedure of a module that is given for a parameter
abbrev pub IsNamedOracle : Oracle → Type 0
IsNamedOracle o = (is_name_text o.parameter ≡ true) × (is_name_text o.name ≡ true)

-- those that a procedure may call, where they are listed
abbrev pub AreNamedOracles : MayCall → Type 0
AreNamedOracles Every = Unit {0}
AreNamedOracles (Those os) = AllByRecursion IsNamedOracle os

-- a procedure that a module type asks for
pub record IsNamedSignature (s : Signature) : Type 0 where
  pub name : is_name_text s.name ≡ true
  pub typed : IsNamedProcedureType (record { params = s.params; result = s.result })
  pub oracles : AreNamedOracles s.oracles

-- a module type, with its parameters
pub record IsNamedModuleType (t : ModuleType) : Type 0 where
  pub params : AllByRecursion IsNamedParam t.params
  pub signatures : AllByRecursion IsNamedSignature t.signatures

-- the procedures of which a module is known from outside
abbrev pub AreNamedTypes : Procedures ProcedureType → Type 0
AreNamedTypes ps = AllByRecursion (λ p. (is_name_text p.0 ≡ true) × IsNamedProcedureType p.1) ps

abbrev pub IsNamedInterface : Interface → Type 0
IsNamedInterface i = AreNamedTypes i.procedures

-- what a lemma states
pub record IsNamedStatement (es : List Enumeration) (q : Sequent) : Type 0 where
  pub sequent : IsNamedSequent es q
  pub conclusion : IsNamed es q.conclusion

-- what a name stands for
abbrev pub IsNamedEntry : List Enumeration → Entry → Type 0
IsNamedEntry es (entry.Module m) = IsNamedModule es m
IsNamedEntry es (entry.Lemma q bs) = IsNamedStatement es q
IsNamedEntry es (entry.Type t) = IsWrittenType 0 [] t × HasFirst es t
IsNamedEntry es entry.AbstractType = Unit {0}
IsNamedEntry es (entry.ModuleType t) = IsNamedModuleType t
IsNamedEntry es (entry.AbstractModule b) = IsNamedBind b
IsNamedEntry es (entry.Constant c) = IsNamedType c.ty × (is_word_here es (out-Ty c.ty) c.number ≡ true)
IsNamedEntry es (entry.Operator o) = AllByRecursion IsNamedType o.params × IsNamed es o.body
IsNamedEntry es (entry.AbstractOperator o) = AllByRecursion IsNamedType o.params × IsNamedType o.result
IsNamedEntry es (entry.Terminating p) = Unit {0}

-- all of it, each thing under a name
abbrev pub IsNamedScope : List Enumeration → Declarations → Type 0
IsNamedScope es ds = AllByRecursion (λ d. (is_path d.0 ≡ true) × IsNamedEntry es d.1) ds

-- Where forms stand.

-- a local, as a form reads it: that of a procedure put in the place of a call may have dots in its name
abbrev pub IsNamedLocal : TypedName → Type 0
IsNamedLocal v = (is_path v.name ≡ true) × IsNamedType v.ty

abbrev pub AreNamedVariables : Variables → Type 0
AreNamedVariables Absent = Unit {0}
AreNamedVariables (Own vs) = AllByRecursion IsNamedLocal vs
AreNamedVariables (Sides ls rs) = AllByRecursion IsNamedLocal ls × AllByRecursion IsNamedLocal rs

abbrev pub IsNamedAround : List Enumeration → Option Module → Type 0
IsNamedAround es None = Unit {0}
IsNamedAround es (Some m) = IsNamedModule es m

pub record IsNamedSetting (es : List Enumeration) (at : Environment) : Type 0 where
  pub scope : IsNamedScope es at.declared
  pub around : IsNamedAround es at.inside
  pub context : IsNamedSequent es at.sequent
  pub variables : AreNamedVariables at.variables

-- what is bound in a form: a value of a named type, or a memory
abbrev pub IsNamedKind : Kind → Type 0
IsNamedKind (Value t) = IsNamedType t
IsNamedKind Memory = Unit {0}

abbrev pub AreNamedBindings : List Binding → Type 0
AreNamedBindings bs = AllByRecursion (λ (b : Binding). IsNamedKind b.kind) bs

-- the type that is wanted of a form, if one is
abbrev pub IsNamedWanted : Option Ty → Type 0
IsNamedWanted None = Unit {0}
IsNamedWanted (Some t) = IsNamedResult t
