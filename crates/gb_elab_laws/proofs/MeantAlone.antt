-- Where no module is abstract, references stand for declared procedures alone.
use Rattle.std.proofs.Common.{◌≡◌, [], Option, Some, None, refl, ap}
use Rattle.gb_terms.specs.declared.decl.Proc.{Proc}
use Rattle.gb_terms.specs.declared.module.ProcRef.{ProcRef}
use Rattle.gb_goal.specs.Instances.{name_of}
use Rattle.gb_goal.specs.Interfaces.{ProcedureType, procedure_type}
use Rattle.gb_goal.specs.Scope as scope
use Rattle.gb_goal.specs.Scope.{as_abstract, entry_of, procedure_of}
use Rattle.gb_goal.specs.declared.scope.Entry.{Entry}
use Rattle.gb_goal.specs.declared.scope.Entry.TheVariants as entry
use Rattle.gb_meaning.specs.Declared.{declared}
use Rattle.gb_meaning.specs.Holds.{declared_modules}
use Rattle.gb_typing.proofs.DeclaredProcedures.{no_abstract}
use Rattle.gb_mods.specs.Meant.{any_of, meant_by, or_any}
use Rattle.gb_mods.specs.declared.meant.Meant.{Meant}
use Rattle.gb_mods.specs.declared.meant.Meant.TheVariants.{Unknown, Declared}

-- what stands for the procedure, if one is declared
abbrev pub of_found : Option Proc → Meant
of_found None = Unknown
of_found (Some p) = Declared p

-- a declared procedure stands for itself
pub meant_there : (ds : scope.Declarations) (r : ProcRef) (p : Proc) → procedure_of ds r ≡ Some p → meant_by ds r ≡ Declared p
meant_there ds r p e = ap (or_any ds r) e

pub meant_alone : (ds : scope.Declarations) → declared_modules (declared ds) ≡ [] → (r : ProcRef) → meant_by ds r ≡ of_found (procedure_of ds r)
meant_alone ds none r = by_found (procedure_of ds r)
  where
    by_entry : (o : Option Entry) → entry_of ds (name_of r.«module») ≡ o → (t : Option ProcedureType) → any_of ds r (as_abstract o) t ≡ Unknown
    by_entry (Some (entry.AbstractModule b)) e t = no_abstract ds none (name_of r.«module») b e
    by_entry _ e t = refl

    by_found : (o : Option Proc) → or_any ds r o ≡ of_found o
    by_found None = by_entry (entry_of ds (name_of r.«module»)) refl (procedure_type ds None r)
    by_found (Some p) = refl
