-- Names, as they are printed.
use Rattle.std.specs.Prelude.{ℕ, if◌then◌else◌, List, [], ◌∷◌, Option, Some, None, codes, bytes_eq}
use Rattle.std.specs.List.{slice_get}
use Rattle.gb_core.specs.declared.var.Var.{Var}
use Rattle.gb_core.specs.declared.var.Var.TheVariants.{Global, Local, Glob}
use Rattle.gb_terms.specs.declared.decl.TypedName.{TypedName}
use Rattle.gb_terms.specs.declared.op.Side.{Side}
use Rattle.gb_terms.specs.declared.op.Side.TheVariants as side
use Rattle.gb_terms.specs.declared.op.Read.{Read}
use Rattle.gb_terms.specs.declared.op.Read.TheVariants.{Logical, Program}
use Rattle.gb_print_names.specs.declared.bound_names.Enumeration.{Enumeration}
use Rattle.gb_print_names.specs.declared.bound_names.Known.{Known}
use Rattle.gb_print_names.specs.BoundNames.{Name, Place}
use Rattle.gb_print_names.specs.Text.{Writing, ◌▸◌, nothing, word}

-- a module that is bound is printed by the name of its binder
abbrev pub module_name : List Known → Name → Name
module_name [] x = x
module_name (k ∷ ks) x = if bytes_eq k.stands x then k.shown else module_name ks x

-- a name, where there is one
abbrev pub perhaps : Option Name → Writing
perhaps (Some x) = word x
perhaps None = nothing

abbrev pub shown_name : Option Known → Option Name
shown_name (Some k) = Some k.shown
shown_name None = None

abbrev pub typed_name : Option TypedName → Option Name
typed_name (Some v) = Some v.name
typed_name None = None

-- what is bound below so many other binders
abbrev pub bound_at : List Known → ℕ → Writing
bound_at bound i = perhaps (shown_name (slice_get bound i))

abbrev pub variable : List Known → Var → Writing
variable bound (Global m x) = word (module_name bound m) ▸ word (codes ".") ▸ word x
variable bound (Local x) = word x
variable bound (Glob m) = word (codes "(glob ") ▸ word (module_name bound m) ▸ word (codes ")")

-- the name of a memory
abbrev pub memory : Place → Side → Writing
memory at side.Own = nothing
memory at side.Left = word (codes "1")
memory at side.Right = word (codes "2")
memory at (side.Memory i) = perhaps (slice_get at.memories i)
memory at (side.Bound i) = bound_at at.bound i

-- the memory of a read, which is left out where a form speaks of one program
abbrev pub beside : Place → Side → Writing
beside at side.Own = nothing
beside at s = word (codes "{") ▸ memory at s ▸ word (codes "}")

abbrev pub read : Place → Read → Writing
read at (Logical i) = perhaps (typed_name (slice_get at.logical i))
read at (Program x s) = variable at.bound x ▸ beside at s

-- the constants of the enumeration of this name
abbrev pub constants : List Enumeration → Name → List Name
constants [] x = []
constants (e ∷ es) x = if bytes_eq e.name x then e.constants else constants es x
