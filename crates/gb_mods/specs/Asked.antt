-- What procedures of any module of a module type call: the oracles that their signatures name, of the modules that are given for the
-- type's parameters.
use Rattle.std.specs.Prelude.{ℕ, if◌then◌else◌, List, [], ◌∷◌, ◌++◌, map, Option, Some, None, bytes_eq}
use Rattle.gb_terms.specs.declared.decl.Param.{Param}
use Rattle.gb_terms.specs.declared.module.Mexp.{Mexp}
use Rattle.gb_terms.specs.declared.module.ProcRef.{ProcRef}
use Rattle.gb_goal.specs.declared.module_type.MayCall.{MayCall}
use Rattle.gb_goal.specs.declared.module_type.MayCall.TheVariants.{Every, Those}
use Rattle.gb_goal.specs.declared.module_type.ModuleType.{ModuleType}
use Rattle.gb_goal.specs.declared.module_type.Oracle.{Oracle}
use Rattle.gb_goal.specs.declared.module_type.Signature.{Signature}
use Rattle.gb_goal.specs.Scope.{Declarations, module_type_of}
use Rattle.gb_goal.specs.Instances.{stands_for}
use Rattle.gb_goal.specs.Interfaces.{signatures_of}

-- the procedures of a parameter of this name
abbrev pub oracles_in : List ℕ → List Signature → List Oracle
oracles_in x ss = map (λ s. record { parameter = x; name = s.name }) ss

-- .. of these parameters
abbrev pub all_oracles : Declarations → List Param → List Oracle
all_oracles ds [] = []
all_oracles ds (q ∷ qs) = oracles_in q.name (signatures_of (module_type_of ds q.ty)) ++ all_oracles ds qs

-- the procedures of these parameters that a procedure may call
abbrev pub oracles_named : Declarations → List Param → MayCall → List Oracle
oracles_named ds qs Every = all_oracles ds qs
oracles_named ds qs (Those os) = os

-- the signature of this name
abbrev pub signature_of : List Signature → List ℕ → Option Signature
signature_of [] n = None
signature_of (s ∷ ss) n = if bytes_eq s.name n then Some s else signature_of ss n

abbrev pub oracles_if : Declarations → List Param → Option Signature → List Oracle
oracles_if ds qs None = []
oracles_if ds qs (Some s) = oracles_named ds qs s.oracles

-- a procedure of the module that is given for a parameter
abbrev pub asked_of : List Param → List Mexp → Oracle → ProcRef
asked_of qs es o = record { «module» = stands_for qs es o.parameter; name = o.name }

abbrev pub asked_for : List Param → List Mexp → List Oracle → List ProcRef
asked_for qs es os = map (asked_of qs es) os

-- what a procedure of any module of a module type calls, where these modules are given for the type's parameters
abbrev pub asked_by : Declarations → Option ModuleType → List Mexp → List ℕ → List ProcRef
asked_by ds None es f = []
asked_by ds (Some t) es f = asked_for t.params es (oracles_if ds t.params (signature_of t.signatures f))
