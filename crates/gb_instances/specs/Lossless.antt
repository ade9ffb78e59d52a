-- Where procedures of a module may lose weight. What parameters lose that the module lacks isn't counted.
use Rattle.std.specs.Prelude.{ℕ, List, [], ◌∷◌, Option, Some, None}
use Rattle.gb_terms.specs.declared.decl.Param.{Param}
use Rattle.gb_terms.specs.declared.decl.Proc.{Proc}
use Rattle.gb_terms.specs.declared.module.Mexp.{Mexp}
use Rattle.gb_terms.specs.declared.module.ProcRef.{ProcRef}
use Rattle.gb_goal.specs.declared.module_type.ModuleType.{ModuleType}
use Rattle.gb_goal.specs.declared.module_type.Signature.{Signature}
use Rattle.gb_goal.specs.declared.scope.Entry.{Entry}
use Rattle.gb_goal.specs.declared.scope.Entry.TheVariants as entry
use Rattle.gb_goal.specs.Instances.{arguments_of, instance, name_of}
use Rattle.gb_goal.specs.Interfaces.{signatures_of}
use Rattle.gb_goal.specs.Scope.{Declarations, entry_of, module_type_of, proc_of}
use Rattle.gb_full.specs.Loss.{Loss, Reached, full_operators, losses, oracles_loss}
use Rattle.gb_mods.specs.declared.meant.Meant.{Meant}
use Rattle.gb_mods.specs.declared.meant.Meant.TheVariants.{Unknown, Declared, Any}
use Rattle.gb_mods.specs.Asked.{asked_by}
use Rattle.gb_mods.specs.Footprint.{signed}
use Rattle.gb_mods.specs.Meets.{Known}
use Rattle.gb_mods.specs.Reach.{all_from}
use Rattle.gb_instances.specs.Footprint.{opened, procedures_of}

abbrev pub declared_if : List Param → List Mexp → Option Proc → Meant
declared_if ps es None = Unknown
declared_if ps es (Some f) = Declared (instance ps es f)

-- any procedure, which calls the oracles that the signature of a module type names; none where there is no type
abbrev pub any_of : Declarations → ProcRef → Option ModuleType → Meant
any_of ds r t = Any (name_of r.module) (asked_by ds t (arguments_of r.module) r.name)

-- what a reference to a procedure stands for, by what is declared under the module's name: nothing is under the name of a parameter that is
-- left open, and any procedure stands for one of it
abbrev pub meant_of : Declarations → ProcRef → Option Entry → Meant
meant_of ds r (Some (entry.Module m)) = declared_if m.params (arguments_of r.module) (proc_of m.procs r.name)
meant_of ds r (Some (entry.AbstractModule b)) = any_of ds r (module_type_of ds b.ty)
meant_of ds r e = any_of ds r None

abbrev pub meant_at : Declarations → ProcRef → Meant
meant_at ds r = meant_of ds r (entry_of ds (name_of r.module))

abbrev pub each_meant : Declarations → List ProcRef → Reached
each_meant ds [] = []
each_meant ds (r ∷ rs) = (r, meant_at ds r) ∷ each_meant ds rs

abbrev pub meant_among : Declarations → Option (List ProcRef) → Reached
meant_among ds None = []
meant_among ds (Some rs) = each_meant ds rs

-- where procedures of these signatures may lose weight first
abbrev pub loss_of : Declarations → Known → List Signature → Loss
loss_of ds k ss = oracles_loss (losses ds (full_operators ds) (meant_among ds (all_from ds None (procedures_of k)))) (signed (opened k) ss)

-- where the procedures of a module may lose weight first that the module type of this name asks for
unfoldable pub first_loss : Declarations → Known → List ℕ → Loss
first_loss ds k n = loss_of ds k (signatures_of (module_type_of ds n))
