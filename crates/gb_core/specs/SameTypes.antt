-- Equality of types as a test.
use Rattle.std.specs.Prelude.{◌==◌, Bool, true, false, ◌&&◌, List, [], ◌∷◌, bytes_eq}
use Rattle.gb_core.specs.declared.ty.Ty.{Ty, out-Ty, fold-Ty}
use Rattle.gb_core.specs.declared.ty.Ty.TheOpen as layer

abbrev pub Test : Type 0
Test = Ty → Bool

abbrev pub all_same : List Test → List Ty → Bool
all_same [] [] = true
all_same (f ∷ fs) (t ∷ ts) = f t && all_same fs ts
all_same _ _ = false

-- two layers are one, by tests of the parts of the first
abbrev pub same_layer : layer.Ty-F Test → layer.Ty-F Ty → Bool
same_layer layer.Unit layer.Unit = true
same_layer layer.Bool layer.Bool = true
same_layer (layer.Bits m) (layer.Bits n) = m == n
same_layer (layer.Mod m) (layer.Mod n) = m == n
same_layer (layer.Enumeration x m) (layer.Enumeration y n) = bytes_eq x y && m == n
same_layer (layer.Tuple fs) (layer.Tuple ts) = all_same fs ts
same_layer (layer.Opt f) (layer.Opt t) = f t
same_layer (layer.Map f g) (layer.Map t u) = f t && g u
same_layer (layer.Abstract x) (layer.Abstract y) = bytes_eq x y
same_layer (layer.Glob x) (layer.Glob y) = bytes_eq x y
same_layer (layer.Distr f) (layer.Distr t) = f t
same_layer layer.Int layer.Int = true
same_layer layer.Real layer.Real = true
same_layer _ _ = false

abbrev pub at_ty : layer.Ty-F Test → Test
at_ty x t = same_layer x (out-Ty t)

-- whether two types are one
abbrev pub ty_eq : Ty → Ty → Bool
ty_eq = fold-Ty Test at_ty
