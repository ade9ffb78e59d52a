-- The types that terms, locals and procedures are written with.
use Rattle.std.specs.Prelude.{if◌then◌else◌, bytes_eq, List, [], ◌∷◌, Option, Some, None}
use Rattle.gb_core.specs.declared.ty.Ty.{Ty}
use Rattle.gb_core.specs.declared.ty.Ty.TheVariants as ty
use Rattle.gb_terms.specs.declared.decl.TypedName.{TypedName}
use Rattle.gb_terms.specs.declared.term.Term.{Term, Term'}
use Rattle.gb_meaning.specs.Names.{Name}
use Rattle.gb_meaning.specs.Program.{Routine}
use Rattle.gb_meaning.specs.Program.Routine.{routine}

-- the type that a term is written with
abbrev pub type_of : Term → Ty
type_of (Term' b h n args t) = t

-- the type of a local
abbrev pub local_type : List TypedName → Name → Option Ty
local_type [] x = None
local_type (l ∷ ls) x = if bytes_eq x l.name then Some l.ty else local_type ls x

-- a type of numbers below a bound
abbrev pub IsModulo : Ty → Type 0
IsModulo (ty.Mod n) = Unit {0}
IsModulo _ = ⊥

-- the parameters of a procedure
abbrev pub params_of : Routine → List TypedName
params_of (routine ps ls c r) = ps

-- the type of its result
abbrev pub result_type : Routine → Ty
result_type (routine ps ls c r) = type_of r
