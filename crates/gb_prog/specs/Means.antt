-- What references mean in a setting, by what they stand for.
use Rattle.std.specs.Prelude.{◌≡◌, Some}
use Rattle.gb_terms.specs.declared.decl.Proc.{Proc}
use Rattle.gb_terms.specs.declared.module.ProcRef.{ProcRef}
use Rattle.gb_meaning.specs.Commands.{statements}
use Rattle.gb_meaning.specs.Program.Routine.{routine}
use Rattle.gb_meaning.specs.Setting.{Setting}
use Rattle.gb_mods.specs.declared.meant.Meant.{Meant}
use Rattle.gb_mods.specs.declared.meant.Meant.TheVariants.{Unknown, Declared, Any}
use Rattle.gb_prog.specs.AnyOf.{IsAnyOf}

-- A declared procedure is its body, in which each call carries what it names in the setting; one of an abstract module is any one.
abbrev pub Means : Setting → ProcRef → Meant → Type 0
Means g p Unknown = Unit {0}
Means g p (Declared f) = g.procedure p ≡ Some (routine f.params f.locals (statements g f.body.list) f.value)
Means g p (Any a qs) = IsAnyOf g a qs p

-- it is in P, where it is a declared procedure
abbrev pub IfDeclared : (Proc → Type 0) → Meant → Type 0
IfDeclared P (Declared f) = P f
IfDeclared P _ = Unit {0}
