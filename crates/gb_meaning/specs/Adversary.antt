-- Adversary programs: what may stand in the place of an abstract module.
use Rattle.std.specs.Prelude.{Bool, true, ◌&&◌, List, [], ◌∷◌, ◌++◌, map, Option, Some, None, if◌then◌else◌, bytes_eq}
use Rattle.std.specs.List.{list_any}
use Rattle.gb_core.specs.declared.var.Var.{Var}
use Rattle.gb_core.specs.declared.var.Var.TheVariants as var
use Rattle.gb_terms.specs.declared.decl.Param.{Param}
use Rattle.gb_goal.specs.declared.module_type.Oracle.{Oracle as OracleName}
use Rattle.gb_meaning.specs.Names.{Name}
use Rattle.gb_meaning.specs.Values.{Global}
use Rattle.gb_meaning.specs.Program.{Routine, Oracle}
use Rattle.gb_meaning.specs.Declared.{Declarations, ModuleType, Signature, MayCall, every, those, module_type_of, signature_in}
use Rattle.gb_meaning.specs.Modules.{Procedures, Applied}
use Rattle.gb_meaning.specs.Linking.{link_routine, oracle_of}
use Rattle.gb_meaning.specs.Footprints.{of_callee}

-- A program for a module type: the globals that it may touch, and its procedures, which call the procedures of the
-- module type's parameters as oracles.
pub record Adversary : Type 0 where
  pub footprint : List Global
  pub procedures : Procedures Routine

-- the module type without signatures
abbrev pub no_module_type : ModuleType
no_module_type = record { params = []; signatures = [] }

-- a module type that may be missing
abbrev pub or_none : Option ModuleType → ModuleType
or_none None = no_module_type
or_none (Some t) = t

-- the module type of this name, and one without procedures where there is none
abbrev pub type_named : Declarations → Name → ModuleType
type_named ds n = or_none (module_type_of ds n)

-- whether two oracles are the same
abbrev pub oracle_eq : Oracle → Oracle → Bool
oracle_eq o p = bytes_eq o.parameter p.parameter && bytes_eq o.name p.name

-- the oracle of this name, as programs ask it
abbrev pub as_asked : OracleName → Oracle
as_asked o = record { parameter = o.parameter; name = o.name }

-- whether a procedure may call this oracle
abbrev pub may_call : MayCall → Oracle → Bool
may_call every o = true
may_call (those os) o = list_any (λ p. oracle_eq o (as_asked p)) os

-- the signature of an oracle, by the module type of its parameter
abbrev pub oracle_signature : Declarations → List Param → Oracle → Option Signature
oracle_signature ds [] o = None
oracle_signature ds (p ∷ ps) o =
    if bytes_eq o.parameter p.name then signature_in (type_named ds p.ty).signatures o.name else oracle_signature ds ps o

-- that of an oracle which a procedure may call
abbrev pub callable : Declarations → ModuleType → Signature → Oracle → Option Signature
callable ds t s o = if may_call s.oracles o then oracle_signature ds t.params o else None

-- the procedures of one parameter
abbrev pub oracles_in : Name → List Signature → List Oracle
oracles_in p [] = []
oracles_in p (s ∷ ss) = record { parameter = p; name = s.name } ∷ oracles_in p ss

-- all procedures of these parameters
abbrev pub oracles_among : Declarations → List Param → List Oracle
oracles_among ds [] = []
oracles_among ds (p ∷ ps) = oracles_in p.name (type_named ds p.ty).signatures ++ oracles_among ds ps

-- the oracles that a signature names
abbrev pub oracles_named : Declarations → List Param → MayCall → List Oracle
oracles_named ds ps every = oracles_among ds ps
oracles_named ds ps (those os) = map as_asked os

-- the oracles that a procedure may call
abbrev pub oracles_called : Declarations → ModuleType → Signature → List Oracle
oracles_called ds t s = oracles_named ds t.params s.oracles

-- all procedures, linked
abbrev pub each_linked : (Oracle → Option Routine) → Procedures Routine → Procedures Routine
each_linked os [] = []
each_linked os (p ∷ ps) = (p.0, link_routine os p.1) ∷ each_linked os ps

-- the program with modules for its parameters
abbrev pub with_oracles : ModuleType → Adversary → Applied Routine
with_oracles t a args = each_linked (oracle_of t.params (map (λ m. m []) args)) a.procedures

-- What an abstract module adds to a footprint: itself as one entry, and what the oracles do that its procedure may call.

-- the footprints of oracles, together
abbrev pub oracle_footprints : (Oracle → Option (List Var)) → List Oracle → List Var
oracle_footprints os [] = []
oracle_footprints os (o ∷ rest) = of_callee (os o) ++ oracle_footprints os rest

-- the footprint of each procedure of the abstract module a
abbrev pub signature_footprints : Declarations → Name → ModuleType → (Oracle → Option (List Var)) → List Signature → Procedures (List Var)
signature_footprints ds a t os [] = []
signature_footprints ds a t os (s ∷ ss) =
    (s.name, var.Glob a ∷ oracle_footprints os (oracles_called ds t s)) ∷ signature_footprints ds a t os ss

-- those of an abstract module with modules for its parameters
abbrev pub abstract_footprint : Declarations → Name → ModuleType → Applied (List Var)
abstract_footprint ds a t args = signature_footprints ds a t (oracle_of t.params (map (λ m. m []) args)) t.signatures
