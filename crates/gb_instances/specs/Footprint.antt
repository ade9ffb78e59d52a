-- Footprints of modules that may lack parameters: what their procedures read or write, through every procedure that they call. Procedures
-- of parameters that are lacking aren't counted.
use Rattle.std.specs.Prelude.{ℕ, List, [], ◌∷◌, ◌++◌, map, Option, Some, None}
use Rattle.gb_core.specs.declared.var.Var.{Var}
use Rattle.gb_core.specs.declared.var.Var.TheVariants.{Glob}
use Rattle.gb_terms.specs.declared.decl.Proc.{Proc}
use Rattle.gb_terms.specs.declared.module.Mexp.{Mexp}
use Rattle.gb_terms.specs.declared.module.ProcRef.{ProcRef}
use Rattle.gb_goal.specs.declared.scope.Entry.{Entry}
use Rattle.gb_goal.specs.declared.scope.Entry.TheVariants as entry
use Rattle.gb_goal.specs.Scope.{Declarations, entry_of, proc_of}
use Rattle.gb_goal.specs.Instances.{given_more, name_of}
use Rattle.gb_goal.specs.Interfaces.{Interface, ProcedureType, Procedures, interface_at}
use Rattle.gb_mods.specs.Footprint.{reference}
use Rattle.gb_mods.specs.Meets.{Known, left_open}
use Rattle.gb_mods.specs.Order.{joined}
use Rattle.gb_mods.specs.Reach.{all_from}
use Rattle.gb_mods.specs.Touched.{touched_in}

abbrev pub references_to : Mexp → Procedures ProcedureType → List ProcRef
references_to e xs = map (λ x. reference e x.0) xs

-- a module, with the parameters that it lacks left open
abbrev pub opened : Known → Mexp
opened k = given_more k.0 (left_open k.1.lacks)

-- .. and its procedures
abbrev pub procedures_of : Known → List ProcRef
procedures_of k = references_to (opened k) k.1.procedures

abbrev pub touched_if : Option Proc → List Var
touched_if None = []
touched_if (Some f) = touched_in f

-- The globals that the procedure of a name reads or writes itself, of what is declared under a name; one of an abstract module all that is
-- the module's own. Of a parameter that is left open nothing is declared.
abbrev pub touched_by : List ℕ → Option Entry → List ℕ → List Var
touched_by n (Some (entry.Module m)) f = touched_if (proc_of m.procs f)
touched_by n (Some (entry.AbstractModule b)) f = Glob n ∷ []
touched_by n e f = []

abbrev pub touched_at : Declarations → ProcRef → List Var
touched_at ds r = touched_by (name_of r.module) (entry_of ds (name_of r.module)) r.name

-- .. that procedures read or write themselves
abbrev pub all_touched : Declarations → List ProcRef → List Var
all_touched ds [] = []
all_touched ds (r ∷ rs) = touched_at ds r ++ all_touched ds rs

-- all that is an abstract module's own
abbrev pub own_of : List ℕ → Option Entry → List Var
own_of n (Some (entry.AbstractModule b)) = Glob n ∷ []
own_of n e = []

abbrev pub own : Declarations → Mexp → List Var
own ds e = own_of (name_of e) (entry_of ds (name_of e))

abbrev pub with_reached : Declarations → Mexp → Option (List ProcRef) → Option (List Var)
with_reached ds e None = None
with_reached ds e (Some rs) = Some (joined (own ds e ++ all_touched ds rs) [])

-- The footprint of a module, in order: the globals that its procedures read or write, through every procedure that they call, but for those
-- of parameters that it lacks; and all that is its own, if it is an abstract one.
unfoldable pub footprint : Declarations → Known → Option (List Var)
footprint ds k = with_reached ds k.0 (all_from ds None (procedures_of k))

abbrev pub footprint_if : Declarations → Mexp → Option Interface → Option (List Var)
footprint_if ds e None = None
footprint_if ds e (Some i) = footprint ds (e, i)

-- the same of a module expression
abbrev pub footprint_at : Declarations → Mexp → Option (List Var)
footprint_at ds e = footprint_if ds e (interface_at ds None e)
