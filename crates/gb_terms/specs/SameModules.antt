-- Equality of module expressions as a test.
use Rattle.std.specs.Prelude.{Bool, true, false, ◌&&◌, List, [], ◌∷◌, bytes_eq}
use Rattle.gb_terms.specs.declared.module.Mexp.{Mexp, out-Mexp, fold-Mexp}
use Rattle.gb_terms.specs.declared.module.Mexp.TheOpen as layer

abbrev pub Test : Type 0
Test = Mexp → Bool

abbrev pub all_same : List Test → List Mexp → Bool
all_same [] [] = true
all_same (f ∷ fs) (e ∷ es) = f e && all_same fs es
all_same _ _ = false

-- two layers are one, by tests of the arguments of the first
abbrev pub same_layer : layer.Mexp-F Test → layer.Mexp-F Mexp → Bool
same_layer (layer.Name m) (layer.Name n) = bytes_eq m n
same_layer (layer.Apply m fs) (layer.Apply n es) = bytes_eq m n && all_same fs es
same_layer _ _ = false

abbrev pub at_mexp : layer.Mexp-F Test → Test
at_mexp x e = same_layer x (out-Mexp e)

-- whether two module expressions are one
abbrev pub mexp_eq : Mexp → Mexp → Bool
mexp_eq = fold-Mexp Test at_mexp
