-- Which globals the procedures of a module read or write.
use Rattle.std.specs.Prelude.{Bool, true, false, ◌&&◌, if◌then◌else◌, ℕ, List, [], ◌∷◌, ◌++◌, Option, Some, None}
use Rattle.gb_core.specs.declared.var.Var.{Var}
use Rattle.gb_core.specs.declared.var.Var.TheVariants.{Glob}
use Rattle.gb_terms.specs.declared.decl.Proc.{Proc}
use Rattle.gb_terms.specs.declared.module.Mexp.{Mexp}
use Rattle.gb_terms.specs.declared.module.Mexp.TheVariants.{Name, Apply'}
use Rattle.gb_terms.specs.declared.module.ProcRef.{ProcRef}
use Rattle.gb_goal.specs.declared.module_type.Signature.{Signature}
use Rattle.gb_goal.specs.declared.scope.Entry.{Entry}
use Rattle.gb_goal.specs.declared.scope.Entry.TheVariants as entry
use Rattle.gb_goal.specs.Scope.{Declarations, entry_of, module_type_of}
use Rattle.gb_goal.specs.Instances.{name_of}
use Rattle.gb_goal.specs.Interfaces.{signatures_of}
use Rattle.gb_mods.specs.declared.meant.Meant.{Meant}
use Rattle.gb_mods.specs.declared.meant.Meant.TheVariants.{Unknown}
use Rattle.gb_mods.specs.Called.{all_reached}
use Rattle.gb_mods.specs.Meant.{meant_by}
use Rattle.gb_mods.specs.Order.{joined}
use Rattle.gb_mods.specs.Touched.{touched_itself}

-- the globals that procedures read or write themselves
abbrev pub touched : Declarations → List ProcRef → List Var
touched ds [] = []
touched ds (p ∷ ps) = touched_itself (meant_by ds p) ++ touched ds ps

-- a procedure of a module
abbrev pub reference : Mexp → List ℕ → ProcRef
reference e f = record { «module» = e; name = f }

abbrev pub references : Mexp → List Proc → List ProcRef
references e [] = []
references e (f ∷ fs) = reference e f.name ∷ references e fs

-- the procedures of an abstract module
abbrev pub signed : Mexp → List Signature → List ProcRef
signed e [] = []
signed e (s ∷ ss) = reference e s.name ∷ signed e ss

abbrev pub is_known : Meant → Bool
is_known Unknown = false
is_known _ = true

-- whether it is known what each of these stands for
abbrev pub are_known : Declarations → List ProcRef → Bool
are_known ds [] = true
are_known ds (p ∷ ps) = is_known (meant_by ds p) && are_known ds ps

-- what these touch, beside other globals
abbrev pub touched_if : Declarations → List Var → Option (List ProcRef) → Option (List Var)
touched_if ds xs None = None
touched_if ds xs (Some ps) = if are_known ds ps then Some (joined (xs ++ touched ds ps) []) else None

-- the same of an abstract module with these signatures, by itself or with modules for its parameters
abbrev pub of_abstract : Declarations → Mexp → List Signature → Option (List Var)
of_abstract ds (Name a) ss = Some (Glob a ∷ [])
of_abstract ds (Apply' a n args) ss = touched_if ds (Glob a ∷ []) (all_reached ds (signed (Apply' a n args) ss))

-- the footprint of a module expression, of which the module is declared as this
abbrev pub footprint_of : Declarations → Mexp → Option Entry → Option (List Var)
footprint_of ds e (Some (entry.Module m)) = touched_if ds [] (all_reached ds (references e m.procs))
footprint_of ds e (Some (entry.AbstractModule b)) = of_abstract ds e (signatures_of (module_type_of ds b.ty))
footprint_of ds e _ = None

-- The footprint of a module expression that lacks nothing: the globals that its procedures read or write, through every procedure that
-- they call, in order. All that is an abstract module's own is one of them, also where it has no procedure; and an abstract module by
-- itself touches nothing else.
unfoldable pub footprint : Declarations → Mexp → Option (List Var)
footprint ds e = footprint_of ds e (entry_of ds (name_of e))
