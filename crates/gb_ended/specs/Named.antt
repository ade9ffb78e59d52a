-- Which modules a module names, through all modules that it names.
use Rattle.std.specs.Prelude.{ℕ, Bool, false, ◌||◌, if◌then◌else◌, List, [], ◌∷◌, ◌++◌, Option, Some, bytes_eq}
use Rattle.gb_core.specs.declared.var.Var.{Var}
use Rattle.gb_core.specs.declared.var.Var.TheVariants as var
use Rattle.gb_terms.specs.declared.decl.Module.{Module}
use Rattle.gb_terms.specs.declared.decl.Param.{Param}
use Rattle.gb_terms.specs.declared.decl.Proc.{Proc}
use Rattle.gb_terms.specs.declared.module.Mexp.{Mexp, Row_of-Mexp, end_of-Mexp, more_of-Mexp}
use Rattle.gb_terms.specs.declared.module.Mexp.TheVariants.{Name, Apply'}
use Rattle.gb_terms.specs.declared.module.ProcRef.{ProcRef}
use Rattle.gb_goal.specs.Scope.{Declarations}
use Rattle.gb_goal.specs.declared.scope.Entry.{Entry}
use Rattle.gb_goal.specs.declared.scope.Entry.TheVariants as entry
use Rattle.gb_mods.specs.Called.{calls}
use Rattle.gb_mods.specs.Touched.{touched_in}

abbrev mutual
  -- the modules that a module expression names
  pub names_in : Mexp → List (List ℕ)
  names_in (Name m) = m ∷ []
  names_in (Apply' m n args) = m ∷ row_names args

  pub row_names : {n : _} → Row_of-Mexp n → List (List ℕ)
  row_names end_of-Mexp = []
  row_names (more_of-Mexp m r) = names_in m ++ row_names r

-- .. that module expressions name
abbrev pub all_names_in : List Mexp → List (List ℕ)
all_names_in [] = []
all_names_in (m ∷ ms) = names_in m ++ all_names_in ms

-- .. of procedures
abbrev pub modules_of : List ProcRef → List (List ℕ)
modules_of [] = []
modules_of (p ∷ ps) = names_in p.module ++ modules_of ps

abbrev pub owner : Var → List (List ℕ)
owner (var.Global m x) = m ∷ []
owner (var.Glob a) = a ∷ []
owner _ = []

-- the owners of globals
abbrev pub owners : List Var → List (List ℕ)
owners [] = []
owners (x ∷ xs) = owner x ++ owners xs

-- the modules that a procedure names itself: those of the procedures that it calls, and the owners of the globals that it reads or writes
abbrev pub named_by : Proc → List (List ℕ)
named_by f = modules_of (calls f.body.list) ++ owners (touched_in f)

-- the same of several procedures
abbrev pub named_in : List Proc → List (List ℕ)
named_in [] = []
named_in (f ∷ fs) = named_by f ++ named_in fs

abbrev pub other : List ℕ → List ℕ → List (List ℕ)
other m n = if bytes_eq m n then [] else n ∷ []

-- the names other than one
abbrev pub others : List ℕ → List (List ℕ) → List (List ℕ)
others m [] = []
others m (n ∷ ns) = other m n ++ others m ns

-- The names other than those of parameters. A module that is declared behind a functor may have the name of one of its parameters.
abbrev pub free_of : List Param → List (List ℕ) → List (List ℕ)
free_of [] ns = ns
free_of (q ∷ qs) ns = free_of qs (others q.name ns)

-- the modules that a module names itself
abbrev pub named_from : Module → List (List ℕ)
named_from m = free_of m.params (named_in m.procs)

-- one of these names
abbrev pub is_one : List (List ℕ) → List ℕ → Bool
is_one [] n = false
is_one (m ∷ ms) n = bytes_eq n m || is_one ms n

-- these names, and those that a thing names, where it is a module that has one of these names
abbrev pub with_named : Option Entry → List (List ℕ) → List (List ℕ)
with_named (Some (entry.Module m)) ns = if is_one ns m.name then ns ++ named_from m else ns
with_named _ ns = ns

-- These names, and those of all modules that modules of these names name, through every module. A module names itself and modules
-- before it alone, so that one way from the last declaration to the first finds them all.
abbrev pub all_named : Declarations → List (List ℕ) → List (List ℕ)
all_named [] ns = ns
all_named (d ∷ ds) ns = with_named (Some d.1) (all_named ds ns)
