-- Types.
use Rattle.std.specs.Prelude.{Bool, true, false, List, codes}
use Rattle.gb_core.specs.declared.ty.Ty.{Ty, fold-Ty}
use Rattle.gb_core.specs.declared.ty.Ty.TheOpen as layer
use Rattle.gb_print_names.specs.declared.bound_names.Known.{Known}
use Rattle.gb_print_names.specs.Text.{Writing, ◌▸◌, word, number, separated}
use Rattle.gb_print_names.specs.Names.{module_name}

abbrev pub Shown : Type 0
Shown = List Known → Writing

-- whether a type is one of tuples, and how it is printed
abbrev pub Part : Type 0
Part = Bool × Shown

abbrev pub in_brackets_if : Bool → Writing → Writing
in_brackets_if true w = word (codes "(") ▸ w ▸ word (codes ")")
in_brackets_if false w = w

-- a part of a type, in brackets where it is one of tuples
abbrev pub operand : Part → Shown
operand t bound = in_brackets_if t.0 (t.1 bound)

abbrev pub is_product : {X : Type 0} → layer.Ty-F X → Bool
is_product (layer.Tuple ts) = true
is_product _ = false

-- a type, from its parts
abbrev pub at_type : layer.Ty-F Part → Shown
at_type layer.Unit bound = word (codes "unit")
at_type layer.Bool bound = word (codes "bool")
at_type (layer.Bits n) bound = word (codes "bits ") ▸ number n
at_type (layer.Mod n) bound = word (codes "int[") ▸ number n ▸ word (codes "]")
at_type (layer.Enumeration x n) bound = word x
at_type (layer.Tuple ts) bound = separated (codes " * ") (λ t. operand t bound) ts
at_type (layer.Opt t) bound = operand t bound ▸ word (codes " option")
at_type (layer.Map k v) bound = word (codes "(") ▸ k.1 bound ▸ word (codes ", ") ▸ v.1 bound ▸ word (codes ") fmap")
at_type (layer.Abstract x) bound = word x
at_type (layer.Glob m) bound = word (codes "glob ") ▸ word (module_name bound m)
at_type (layer.Distr t) bound = operand t bound ▸ word (codes " distr")
at_type layer.Int bound = word (codes "int")
at_type layer.Real bound = word (codes "real")

abbrev pub type_part : Ty → Part
type_part = fold-Ty Part (λ l. (is_product l, at_type l))

-- a type
abbrev pub type_text : Ty → Shown
type_text t = (type_part t).1

-- a type, in brackets where it is one of tuples
abbrev pub type_operand : Ty → Shown
type_operand t = operand (type_part t)
