-- The types of procedures and modules.
use Rattle.std.specs.Prelude.{Bool, true, false, ◌&&◌, List, [], ◌∷◌, map, Option, Some, None, if◌then◌else◌, bytes_eq}
use Rattle.gb_terms.specs.declared.module.Mexp.{Mexp, Row_of-Mexp, end_of-Mexp, more_of-Mexp}
use Rattle.gb_terms.specs.declared.module.Mexp.TheVariants.{Name as named, Apply'}
use Rattle.gb_terms.specs.declared.module.ProcRef.{ProcRef}
use Rattle.gb_meaning.specs.Names.{Name}
pub use Rattle.gb_goal.specs.Interfaces.{ProcedureType, signature_types, signatures_of, params_in, same_params, has_type, provides}
use Rattle.gb_meaning.specs.Declared.{ModuleType}
use Rattle.gb_meaning.specs.Modules.{Procedures, found}

-- A module type: the procedures of the modules that its parameters stand for, which lack none themselves, and its own procedures.
pub record FunctorType : Type 0 where
  pub lacks : List (Procedures ProcedureType)
  pub procedures : Procedures ProcedureType

-- A module: the types of the modules that it still lacks, and those of its procedures.
pub record Interface : Type 0 where
  pub lacks : List FunctorType
  pub procedures : Procedures ProcedureType

-- what the names of module types and of modules stand for
pub record Modules : Type 0 where
  pub types : Name → Option ModuleType
  pub interfaces : Name → Option Interface

-- a module type, where it is known what the names of module types stand for
abbrev pub functor_type : (Name → Option ModuleType) → Option ModuleType → FunctorType
functor_type types t = record { lacks = map (λ p. signature_types (signatures_of (types p.ty))) (params_in t); procedures = signature_types (signatures_of t) }

abbrev pub without_lacks : Procedures ProcedureType → FunctorType
without_lacks ps = record { lacks = []; procedures = ps }

-- a module of this type
abbrev pub of_functor_type : FunctorType → Interface
of_functor_type t = record { lacks = map without_lacks t.lacks; procedures = t.procedures }

abbrev pub is_complete : List (Procedures ProcedureType) → Bool
is_complete [] = true
is_complete (p ∷ ps) = false

-- whether modules with these procedures may stand where modules of these types are lacking
abbrev pub serve : List (Procedures ProcedureType) → List FunctorType → Bool
serve [] [] = true
serve (ps ∷ pss) (t ∷ ts) = is_complete t.lacks && (provides ps t.procedures && serve pss ts)
serve _ _ = false

-- whether a module fits a module type: it has the procedures of the type, and what it lacks the type's parameters give
abbrev pub fits : Option Interface → FunctorType → Bool
fits None t = false
fits (Some i) t = serve t.lacks i.lacks && provides i.procedures t.procedures

-- what is still lacking where these modules are given in front
abbrev pub left_over : List FunctorType → List (Option Interface) → Option (List FunctorType)
left_over ts [] = Some ts
left_over [] (i ∷ is) = None
left_over (t ∷ ts) (i ∷ is) = if fits i t then left_over ts is else None

abbrev pub lacking : Interface → Option (List FunctorType) → Option Interface
lacking i None = None
lacking i (Some ts) = Some (record i { lacks = ts })

abbrev pub given : Option Interface → List (Option Interface) → Option Interface
given None is = None
given (Some i) is = lacking i (left_over i.lacks is)

abbrev mutual
  -- what a module expression lacks and has, if its modules fit
  pub interface_at : Modules → Mexp → Option Interface
  interface_at ms (named n) = ms.interfaces n
  interface_at ms (Apply' n k args) = given (ms.interfaces n) (interfaces_at ms args)

  pub interfaces_at : {n : _} → Modules → Row_of-Mexp n → List (Option Interface)
  interfaces_at ms end_of-Mexp = []
  interfaces_at ms (more_of-Mexp m r) = interface_at ms m ∷ interfaces_at ms r

-- the procedure of this name, where nothing is lacking
abbrev pub of_complete : List FunctorType → Procedures ProcedureType → Name → Option ProcedureType
of_complete [] ps n = found ps n
of_complete (k ∷ ks) ps n = None

-- a procedure of a module that lacks nothing
abbrev pub procedure_of : Option Interface → Name → Option ProcedureType
procedure_of None n = None
procedure_of (Some i) n = of_complete i.lacks i.procedures n

-- the type of the procedure that a reference means, if there is one
abbrev pub procedure_type : Modules → ProcRef → Option ProcedureType
procedure_type ms p = procedure_of (interface_at ms p.module) p.name

-- the modules, and a further one of this name
abbrev pub with_interface : Modules → Name → Option Interface → Modules
with_interface ms n i = record ms { interfaces = λ k. if bytes_eq k n then i else ms.interfaces k }
