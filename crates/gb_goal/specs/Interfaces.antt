-- What is known of modules from outside: the modules that they lack, and the types of their procedures.
use Rattle.std.specs.Prelude.{ℕ, Bool, true, false, ◌&&◌, List, [], ◌∷◌, map, Option, Some, None, if◌then◌else◌, bytes_eq}
use Rattle.std.specs.Option.{option_map}
use Rattle.gb_core.specs.declared.ty.Ty.{Ty}
use Rattle.gb_core.specs.SameTypes.{ty_eq}
use Rattle.gb_terms.specs.declared.decl.Module.{Module}
use Rattle.gb_terms.specs.declared.decl.Param.{Param}
use Rattle.gb_terms.specs.declared.decl.Proc.{Proc}
use Rattle.gb_terms.specs.declared.decl.TypedName.{TypedName}
use Rattle.gb_terms.specs.declared.module.Mexp.{Mexp, Row_of-Mexp, end_of-Mexp, more_of-Mexp}
use Rattle.gb_terms.specs.declared.module.Mexp.TheVariants.{Name, Apply'}
use Rattle.gb_terms.specs.declared.module.ProcRef.{ProcRef}
use Rattle.gb_goal.specs.declared.module_type.ModuleType.{ModuleType}
use Rattle.gb_goal.specs.declared.module_type.Signature.{Signature}
use Rattle.gb_goal.specs.declared.scope.Entry.{Entry}
use Rattle.gb_goal.specs.declared.scope.Entry.TheVariants as entry
use Rattle.gb_goal.specs.Entries.{Declarations, entry_of, module_type_of}

-- the parameters of a procedure, and the type of its result
pub record ProcedureType : Type 0 where
  pub params : List TypedName
  pub result : Ty

-- things of a module's procedures, in order, each with the name of its procedure
abbrev pub Procedures : Type 0 → Type 0
Procedures X = List (List ℕ × X)

-- the first thing of this name
abbrev pub found : {X : Type 0} → List (List ℕ × X) → List ℕ → Option X
found [] n = None
found (x ∷ xs) n = if bytes_eq n x.0 then Some x.1 else found xs n

-- A module: the parameters for which it still lacks modules, and the types of its procedures.
pub record Interface : Type 0 where
  pub lacks : List Param
  pub procedures : Procedures ProcedureType

abbrev pub type_of_procedure : Proc → ProcedureType
type_of_procedure p = record { params = p.params; result = p.result }

abbrev pub procedure_types : List Proc → Procedures ProcedureType
procedure_types ps = map (λ p. (p.name, type_of_procedure p)) ps

-- the types of the procedures that a module type asks for
abbrev pub signature_types : List Signature → Procedures ProcedureType
signature_types [] = []
signature_types (s ∷ ss) = (s.name, record { params = s.params; result = s.result }) ∷ signature_types ss

-- What names stand for.

abbrev pub of_module : Module → Interface
of_module m = record { lacks = m.params; procedures = procedure_types m.procs }

-- any module of a module type
abbrev pub of_type : ModuleType → Interface
of_type t = record { lacks = t.params; procedures = signature_types t.signatures }

-- a declared module; of an abstract one it is known that it is one of its module type
abbrev pub of_entry : Declarations → Option Entry → Option Interface
of_entry ds (Some (entry.Module m)) = Some (of_module m)
of_entry ds (Some (entry.AbstractModule b)) = option_map of_type (module_type_of ds b.ty)
of_entry ds _ = None

abbrev pub of_declared : Declarations → List ℕ → Option Interface
of_declared ds n = of_entry ds (entry_of ds n)

-- inside of a module: one of these parameters of it, the module itself as far as its procedures are there, or a declared module
abbrev pub of_inner : Declarations → Module → List Param → List ℕ → Option Interface
of_inner ds m [] n = if bytes_eq n m.name then Some (of_module m) else of_declared ds n
of_inner ds m (p ∷ ps) n = if bytes_eq n p.name then option_map of_type (module_type_of ds p.ty) else of_inner ds m ps n

-- what a name stands for, outside of modules or inside of one
abbrev pub interface_of : Declarations → Option Module → List ℕ → Option Interface
interface_of ds None n = of_declared ds n
interface_of ds (Some m) n = of_inner ds m m.params n

-- When a module may stand for a parameter.

-- whether the parameters have the same types; their names are of no account to a call
abbrev pub same_params : List TypedName → List TypedName → Bool
same_params [] [] = true
same_params (x ∷ xs) (y ∷ ys) = ty_eq x.ty y.ty && same_params xs ys
same_params _ _ = false

abbrev pub has_type : Option ProcedureType → ProcedureType → Bool
has_type None u = false
has_type (Some t) u = same_params t.params u.params && ty_eq t.result u.result

-- whether a module with the first procedures has each of the second ones, at its types
abbrev pub provides : Procedures ProcedureType → Procedures ProcedureType → Bool
provides ps [] = true
provides ps (q ∷ qs) = has_type (found ps q.0) q.1 && provides ps qs

abbrev pub signatures_of : Option ModuleType → List Signature
signatures_of None = []
signatures_of (Some t) = t.signatures

abbrev pub params_in : Option ModuleType → List Param
params_in None = []
params_in (Some t) = t.params

abbrev pub are_none : List Param → Bool
are_none [] = true
are_none (p ∷ ps) = false

-- whether any module of the first type, where its parameters are given, may stand where one of the second is lacking
abbrev pub serves : Option ModuleType → Option ModuleType → Bool
serves q p = are_none (params_in p) && provides (signature_types (signatures_of q)) (signature_types (signatures_of p))

-- whether the parameters of a module type give what a module lacks, one for each
abbrev pub takes : Declarations → List Param → List Param → Bool
takes ds [] [] = true
takes ds (p ∷ ps) (q ∷ qs) = serves (module_type_of ds q.ty) (module_type_of ds p.ty) && takes ds ps qs
takes ds _ _ = false

-- whether a module fits a module type: what it lacks the type's parameters give, and it has the procedures of the type
abbrev pub fits : Declarations → Option Interface → Option ModuleType → Bool
fits ds (Some i) (Some t) = takes ds i.lacks t.params && provides i.procedures (signature_types t.signatures)
fits ds _ _ = false

-- Module expressions.

-- what is still lacking of these parameters where modules are given in front
abbrev pub left_over : Declarations → List Param → List (Option Interface) → Option (List Param)
left_over ds ps [] = Some ps
left_over ds [] (i ∷ is) = None
left_over ds (p ∷ ps) (i ∷ is) = if fits ds i (module_type_of ds p.ty) then left_over ds ps is else None

abbrev pub lacking : Interface → Option (List Param) → Option Interface
lacking i None = None
lacking i (Some ps) = Some (record i { lacks = ps })

abbrev pub given : Declarations → Option Interface → List (Option Interface) → Option Interface
given ds None is = None
given ds (Some i) is = lacking i (left_over ds i.lacks is)

abbrev mutual
  -- what a module expression lacks and has, if its modules fit, outside of modules or inside of one
  pub interface_at : Declarations → Option Module → Mexp → Option Interface
  interface_at ds a (Name n) = interface_of ds a n
  interface_at ds a (Apply' n k args) = given ds (interface_of ds a n) (interfaces_at ds a args)

  pub interfaces_at : {n : _} → Declarations → Option Module → Row_of-Mexp n → List (Option Interface)
  interfaces_at ds a end_of-Mexp = []
  interfaces_at ds a (more_of-Mexp m r) = interface_at ds a m ∷ interfaces_at ds a r

-- whether these modules may stand for parameters, outside of modules, one for each
abbrev pub suits : Declarations → List Param → List Mexp → Bool
suits ds [] [] = true
suits ds (p ∷ ps) (e ∷ es) = fits ds (interface_at ds None e) (module_type_of ds p.ty) && suits ds ps es
suits ds _ _ = false

-- the procedure of this name, where nothing is lacking
abbrev pub of_complete : List Param → Procedures ProcedureType → List ℕ → Option ProcedureType
of_complete [] ps n = found ps n
of_complete (k ∷ ks) ps n = None

abbrev pub procedure_in : Option Interface → List ℕ → Option ProcedureType
procedure_in None n = None
procedure_in (Some i) n = of_complete i.lacks i.procedures n

-- the type of the procedure that a reference means, of a module that lacks nothing
abbrev pub procedure_type : Declarations → Option Module → ProcRef → Option ProcedureType
procedure_type ds a p = procedure_in (interface_at ds a p.module) p.name
