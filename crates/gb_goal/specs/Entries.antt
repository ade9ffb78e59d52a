-- What is declared under a name.
use Rattle.std.specs.Prelude.{ℕ, List, [], ◌∷◌, Option, Some, None, if◌then◌else◌, bytes_eq}
use Rattle.std.specs.List.{slice_get}
use Rattle.std.specs.Option.{option_map}
use Rattle.gb_core.specs.declared.ty.Ty.{Ty}
use Rattle.gb_core.specs.declared.ty.Ty.TheVariants.{Abstract}
use Rattle.gb_terms.specs.declared.decl.Module.{Module}
use Rattle.gb_terms.specs.declared.decl.Proc.{Proc}
use Rattle.gb_terms.specs.declared.module.Bind.{Bind}
use Rattle.gb_terms.specs.declared.term.Term.{out-Term}
use Rattle.gb_goal.specs.declared.module_type.ModuleType.{ModuleType}
use Rattle.gb_goal.specs.declared.sequent.Sequent.{Sequent}
use Rattle.gb_goal.specs.declared.scope.Constant.{Constant}
use Rattle.gb_goal.specs.declared.scope.OperatorType.{OperatorType}
use Rattle.gb_goal.specs.declared.scope.Binder.{Binder}
use Rattle.gb_goal.specs.declared.scope.Entry.{Entry}
use Rattle.gb_goal.specs.declared.scope.Entry.TheVariants as entry

-- what is declared, in order, each with its name
abbrev pub Declarations : Type 0
Declarations = List (List ℕ × Entry)

-- the thing of this name
abbrev pub entry_of : Declarations → List ℕ → Option Entry
entry_of [] n = None
entry_of (d ∷ ds) n = if bytes_eq n d.0 then Some d.1 else entry_of ds n

-- the thing of this number, from 0
abbrev pub entry_at : Declarations → ℕ → Option Entry
entry_at ds i = option_map (λ d. d.1) (slice_get ds i)

abbrev pub as_module : Option Entry → Option Module
as_module (Some (entry.Module m)) = Some m
as_module _ = None

abbrev pub as_module_type : Option Entry → Option ModuleType
as_module_type (Some (entry.ModuleType t)) = Some t
as_module_type _ = None

abbrev pub as_abstract : Option Entry → Option Bind
as_abstract (Some (entry.AbstractModule b)) = Some b
as_abstract _ = None

abbrev pub as_lemma : Option Entry → Option Sequent
as_lemma (Some (entry.Lemma s bs)) = Some s
as_lemma _ = None

abbrev pub as_binders : Option Entry → List Binder
as_binders (Some (entry.Lemma s bs)) = bs
as_binders _ = []

-- an abstract type is known by its name alone
abbrev pub as_type : List ℕ → Option Entry → Option Ty
as_type n (Some (entry.Type t)) = Some t
as_type n (Some entry.AbstractType) = Some (Abstract n)
as_type n _ = None

abbrev pub as_constant : Option Entry → Option Constant
as_constant (Some (entry.Constant c)) = Some c
as_constant _ = None

abbrev pub as_operator : Option Entry → Option OperatorType
as_operator (Some (entry.Operator o)) = Some (record { params = o.params; result = (out-Term o.body).ty })
as_operator (Some (entry.AbstractOperator t)) = Some t
as_operator _ = None

-- the module of this name
abbrev pub module_of : Declarations → List ℕ → Option Module
module_of ds n = as_module (entry_of ds n)

-- the module type of this name
abbrev pub module_type_of : Declarations → List ℕ → Option ModuleType
module_type_of ds n = as_module_type (entry_of ds n)

-- the abstract module of this name
abbrev pub abstract_of : Declarations → List ℕ → Option Bind
abstract_of ds n = as_abstract (entry_of ds n)

-- the statement of the lemma of this name
abbrev pub lemma_of : Declarations → List ℕ → Option Sequent
lemma_of ds n = as_lemma (entry_of ds n)

-- what its binders bind, in the order of the text
abbrev pub binders_of : Declarations → List ℕ → List Binder
binders_of ds n = as_binders (entry_of ds n)

-- the type that this name stands for
abbrev pub type_named : Declarations → List ℕ → Option Ty
type_named ds n = as_type n (entry_of ds n)

-- the constant of this name, which an enumeration has
abbrev pub constant_named : Declarations → List ℕ → Option Constant
constant_named ds n = as_constant (entry_of ds n)

-- the types of the operator of this name: those of its parameters, and that of its result
abbrev pub operator_named : Declarations → List ℕ → Option OperatorType
operator_named ds n = as_operator (entry_of ds n)

-- the first procedure of this name
abbrev pub proc_of : List Proc → List ℕ → Option Proc
proc_of [] n = None
proc_of (p ∷ ps) n = if bytes_eq n p.name then Some p else proc_of ps n
