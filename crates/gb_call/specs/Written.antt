-- Globals with their types.
use Rattle.std.specs.Prelude.{ℕ, List, [], ◌∷◌, map, Option, Some, None}
use Rattle.std.specs.Option.{option_map}
use Rattle.gb_core.specs.declared.ty.Ty.{Ty}
use Rattle.gb_core.specs.declared.ty.Ty.TheVariants as ty
use Rattle.gb_core.specs.declared.var.Var.{Var}
use Rattle.gb_core.specs.declared.var.Var.TheVariants.{Global, Glob}
use Rattle.gb_terms.specs.declared.decl.Module.{Module}
use Rattle.gb_terms.specs.declared.module.Bind.{Bind}
use Rattle.gb_meaning.specs.Written.{local_type}
use Rattle.gb_goal.specs.Scope.{Declarations, abstract_of, module_of}
use Rattle.gb_prog.specs.Writes.{TypedVariable}
use Rattle.gb_call.specs.declared.written.TypedGlobal.{TypedGlobal}

abbrev pub type_in : Option Module → List ℕ → Option Ty
type_in None x = None
type_in (Some m) x = local_type m.globals x

-- the type of all that is the own of the abstract module of this name
abbrev pub glob_type : List ℕ → Option Bind → Option Ty
glob_type a None = None
glob_type a (Some b) = Some (ty.Glob a)

-- the type of a global of a declared module, or of all of an abstract one
abbrev pub global_type : Declarations → Var → Option Ty
global_type ds (Global m x) = type_in (module_of ds m) x
global_type ds (Glob a) = glob_type a (abstract_of ds a)
global_type ds _ = None

abbrev pub typed_before : Var → Option Ty → Option (List TypedVariable) → Option (List TypedVariable)
typed_before x (Some t) (Some W) = Some (record { variable = x; ty = t } ∷ W)
typed_before x _ _ = None

-- globals with their types
abbrev pub with_types : Declarations → List Var → Option (List TypedVariable)
with_types ds [] = Some []
with_types ds (x ∷ xs) = typed_before x (global_type ds x) (with_types ds xs)

-- the same, as the code has them
abbrev pub global_seen : TypedGlobal → TypedVariable
global_seen x = record { variable = x.variable; ty = x.ty }

abbrev pub typed_seen : Option (List TypedGlobal) → Option (List TypedVariable)
typed_seen o = option_map (map global_seen) o
