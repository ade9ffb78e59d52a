-- What references to procedures stand for: procedures of declared modules, and those of abstract modules, of which the signature is known.
use Rattle.std.specs.Prelude.{List, ◌++◌, Option, Some, None}
use Rattle.gb_terms.specs.declared.decl.Proc.{Proc}
use Rattle.gb_terms.specs.declared.module.Bind.{Bind}
use Rattle.gb_terms.specs.declared.module.ProcRef.{ProcRef}
use Rattle.gb_goal.specs.Interfaces.{ProcedureType, procedure_type}
use Rattle.gb_goal.specs.Instances.{arguments_of, name_of}
use Rattle.gb_goal.specs.Scope.{Declarations, abstract_of, module_type_of, procedure_of}
use Rattle.gb_mods.specs.declared.meant.Meant.{Meant}
use Rattle.gb_mods.specs.declared.meant.Meant.TheVariants.{Unknown, Declared, Any}
use Rattle.gb_mods.specs.Asked.{asked_by}

-- A procedure of an abstract module that lacks nothing is any one of its signature. It may touch all that is the module's own, and calls
-- the oracles that the signature names.
abbrev pub any_of : Declarations → ProcRef → Option Bind → Option ProcedureType → Meant
any_of ds r (Some b) (Some t) = Any (name_of r.module) (asked_by ds (module_type_of ds b.ty) (arguments_of r.module) r.name)
any_of ds r _ _ = Unknown

abbrev pub or_any : Declarations → ProcRef → Option Proc → Meant
or_any ds r (Some f) = Declared f
or_any ds r None = any_of ds r (abstract_of ds (name_of r.module)) (procedure_type ds None r)

-- what a reference to a procedure stands for
abbrev pub meant_by : Declarations → ProcRef → Meant
meant_by ds r = or_any ds r (procedure_of ds r)

-- things of one procedure in front of those of others, where both are known
abbrev pub in_front : {A : Type 0} → Option (List A) → Option (List A) → Option (List A)
in_front (Some xs) (Some ys) = Some (xs ++ ys)
in_front _ _ = None
