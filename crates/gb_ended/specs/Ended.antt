-- Modules that are ended: each procedure that has a loop is proved, and each module that they name is ended.
use Rattle.std.specs.Prelude.{ℕ, if◌then◌else◌, List, [], ◌∷◌, Option, Some, None}
use Rattle.gb_terms.specs.declared.decl.Module.{Module}
use Rattle.gb_terms.specs.declared.decl.Proc.{Proc}
use Rattle.gb_goal.specs.Scope.{Declarations, module_of, proc_of}
use Rattle.gb_goal.specs.declared.scope.Entry.{Entry}
use Rattle.gb_goal.specs.declared.scope.Entry.TheVariants as entry
use Rattle.gb_goal.specs.declared.scope.ProcName.{ProcName}
use Rattle.gb_ended.specs.Loops.{first, unproved}
use Rattle.gb_ended.specs.Named.{all_named, is_one, named_by, others}

-- the first procedure of a module, in order, that has a loop and isn't proved
abbrev pub first_among : Declarations → List ℕ → List Proc → Option ProcName
first_among ds m [] = None
first_among ds m (f ∷ fs) = first (unproved ds m f) (first_among ds m fs)

-- the same of a thing, where it is a module that has one of these names
abbrev pub first_at : Declarations → List (List ℕ) → Option Entry → Option ProcName
first_at ds ns (Some (entry.Module m)) = if is_one ns m.name then first_among ds m.name m.procs else None
first_at ds ns _ = None

-- the same of things, in order
abbrev pub first_of : Declarations → List (List ℕ) → Declarations → Option ProcName
first_of ds ns [] = None
first_of ds ns (e ∷ es) = first (first_at ds ns (Some e.1)) (first_of ds ns es)

-- The first procedure, in order of declaration, that has a loop and isn't proved, of the module of this name and all modules that it
-- names, through every module. None where the module is ended.
abbrev pub first_unproved : Declarations → List ℕ → Option ProcName
first_unproved ds n = first_of ds (all_named ds (n ∷ [])) ds

-- the procedure of this name in a module
abbrev pub procedure_in : Option Module → List ℕ → Option Proc
procedure_in None f = None
procedure_in (Some m) f = proc_of m.procs f

abbrev pub named_if : Option Proc → List (List ℕ)
named_if None = []
named_if (Some f) = named_by f

-- The same of the modules that a procedure names itself, other than its own.
abbrev pub first_unproved_in : Declarations → ProcName → Option ProcName
first_unproved_in ds p = first_of ds (all_named ds (others p.module (named_if (procedure_in (module_of ds p.module) p.name)))) ds
