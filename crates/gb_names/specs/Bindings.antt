-- What is bound in a form, the innermost first.
use Rattle.std.specs.Prelude.{ℕ, suc, if◌then◌else◌, List, [], ◌∷◌, Option, find, bytes_eq}
use Rattle.gb_core.specs.declared.ty.Ty.{Ty}
use Rattle.gb_terms.specs.declared.decl.TypedName.{TypedName}
use Rattle.gb_names.specs.declared.bindings.Binding.{Binding}
use Rattle.gb_names.specs.declared.bindings.Kind.TheVariants.{Value, Memory}
use Rattle.gb_names.specs.Environment.{Name}

-- a value of a type, and a memory, under a name
abbrev pub value : Name → Ty → Binding
value x t = record { name = x; kind = Value t }

abbrev pub memory : Name → Binding
memory x = record { name = x; kind = Memory }

-- a variable as what is bound
abbrev pub bound_value : TypedName → Binding
bound_value v = value v.name v.ty

-- the innermost thing of this name
abbrev pub innermost : List Binding → Name → Option Binding
innermost bs x = find (λ b. bytes_eq b.name x) bs

-- how many binders stand inside of that one
abbrev pub binders_inside : List Binding → Name → ℕ
binders_inside [] x = 0
binders_inside (b ∷ bs) x = if bytes_eq b.name x then 0 else suc (binders_inside bs x)
