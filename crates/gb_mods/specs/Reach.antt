-- What procedures of module expressions call, inside of a module that is typed so far or outside: those of declared modules, of the
-- module around, and of its parameters and abstract modules, which call the oracles that their signatures name. Arguments are known to
-- fit.
use Rattle.std.specs.Prelude.{ℕ, ◌^◌, if◌then◌else◌, List, [], ◌∷◌, ◌++◌, map, Option, Some, None, bytes_eq}
use Rattle.gb_terms.specs.declared.decl.Module.{Module}
use Rattle.gb_terms.specs.declared.decl.Param.{Param}
use Rattle.gb_terms.specs.declared.module.Mexp.{Mexp}
use Rattle.gb_terms.specs.declared.module.ProcRef.{ProcRef}
use Rattle.gb_goal.specs.declared.scope.Entry.{Entry}
use Rattle.gb_goal.specs.declared.scope.Entry.TheVariants as entry
use Rattle.gb_goal.specs.Scope.{Declarations, as_module, entry_of, module_type_of, proc_of}
use Rattle.gb_goal.specs.Instances.{arguments_of, name_of, put_in_reference, stands_for}
use Rattle.gb_mods.specs.Asked.{asked_by}
use Rattle.gb_mods.specs.Called.{calls_if, reached}

-- procedures as a module with these parameters names them, where these modules are given for them
abbrev pub given_for : List Param → List Mexp → List ProcRef → List ProcRef
given_for ps es rs = map (put_in_reference (stands_for ps es)) rs

-- what a procedure of a module calls itself, where these modules are given for the module's parameters
abbrev pub calls_of : Option Module → List Mexp → List ℕ → List ProcRef
calls_of None es f = []
calls_of (Some m) es f = given_for m.params es (calls_if (proc_of m.procs f))

-- what a procedure of a declared module calls itself, with these arguments; one of an abstract module the oracles that its signature names
abbrev pub called_declared : Declarations → Option Entry → List Mexp → List ℕ → List ProcRef
called_declared ds (Some (entry.AbstractModule b)) es f = asked_by ds (module_type_of ds b.ty) es f
called_declared ds e es f = calls_of (as_module e) es f

-- inside of a module with these parameters, or some of them: what the procedure of this name calls itself, of the module of a name with
-- these arguments
abbrev pub called_inside : Declarations → Module → List Param → List ℕ → List Mexp → List ℕ → List ProcRef
called_inside ds m [] n es f = if bytes_eq n m.name then calls_of (Some m) es f else called_declared ds (entry_of ds n) es f
called_inside ds m (q ∷ qs) n es f = if bytes_eq n q.name then asked_by ds (module_type_of ds q.ty) es f else called_inside ds m qs n es f

abbrev pub called_at : Declarations → Option Module → List ℕ → List Mexp → List ℕ → List ProcRef
called_at ds None n es f = called_declared ds (entry_of ds n) es f
called_at ds (Some m) n es f = called_inside ds m m.params n es f

-- the procedures that a procedure calls itself
abbrev pub called_from : Declarations → Option Module → ProcRef → List ProcRef
called_from ds a r = called_at ds a (name_of r.module) (arguments_of r.module) r.name

-- .. of several
abbrev pub called_from_all : Declarations → Option Module → List ProcRef → List ProcRef
called_from_all ds a [] = []
called_from_all ds a (r ∷ rs) = called_from ds a r ++ called_from_all ds a rs

-- Procedures, and behind them all that they call, through every procedure. (They are known of each script: it has fewer than 2^32.)
abbrev pub all_from : Declarations → Option Module → List ProcRef → Option (List ProcRef)
all_from ds a ps = reached (2 ^ 32) (called_from_all ds a) 0 ps
