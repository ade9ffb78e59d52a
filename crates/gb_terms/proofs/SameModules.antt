-- The test of module expressions decides their equality.
use Rattle.std.proofs.Common.{◌≡◌, ℕ, Bool, true, bytes_eq, List, [], ◌∷◌, map, refl, sym, ap, subst, ◌∙◌, ◌↔◌, IsTrue, Decides}
use Rattle.std.proofs.lemmas.Bool.{and_from, and_parts, false≢true}
use Rattle.std.proofs.lemmas.Bool.Decides.{same_from_decides}
use Rattle.std.proofs.lemmas.Slice.Eq.{bytes_eq-Decides}
use Rattle.gb_terms.specs.declared.module.Mexp.{Mexp, roll-Mexp, out-Mexp}
use Rattle.gb_terms.specs.declared.module.Mexp.TheOpen as layer
use Rattle.gb_terms.specs.declared.module.Mexp.TheViews.{roll-out-Mexp, out-roll-Mexp}
use Rattle.gb_terms.specs.declared.module.Mexp.TheFolds.{map-Mexp, ind-Mexp, fold-roll-Mexp}
use Rattle.gb_terms.specs.SameModules.{Test, all_same, same_layer, at_mexp, mexp_eq}

abbrev Layer : Type 0
Layer = layer.Mexp-F Mexp

-- a layer with the tests of its arguments
abbrev tests : Layer → layer.Mexp-F Test
tests = map-Mexp Mexp Test mexp_eq

test_at : (x : Layer) (e : Mexp) → mexp_eq (roll-Mexp x) e ≡ same_layer (tests x) (out-Mexp e)
test_at x e = ap (λ f. f e) (fold-roll-Mexp Test at_mexp x)

-- module expressions that pass the test are one

abbrev Is : Mexp → Type 0
Is m = (e : Mexp) → mexp_eq m e ≡ true → m ≡ e

abbrev IsLayer : Type 0
IsLayer = layer.Mexp-F ((m : Mexp) × Is m)

abbrev is_mexps : IsLayer → Layer
is_mexps = map-Mexp ((m : Mexp) × Is m) Mexp (λ e. e.0)

is_all : (ms : List ((m : Mexp) × Is m)) (es : List Mexp) → all_same (map mexp_eq (map (λ e. e.0) ms)) es ≡ true → map (λ e. e.0) ms ≡ es
is_all [] [] k = refl
is_all (m ∷ ms) (e ∷ es) k = let p = and_parts _ _ k in λ i. m.1 e p.0 i ∷ is_all ms es p.1 i
is_all _ _ k = absurd (false≢true k)

is_layer : (y : IsLayer) (z : Layer) → same_layer (tests (is_mexps y)) z ≡ true → is_mexps y ≡ z
is_layer (layer.Name m) (layer.Name n) k = ap layer.Name ((bytes_eq-Decides m n).0 k)
is_layer (layer.Apply m ms) (layer.Apply n es) k = let p = and_parts _ _ k in λ i. layer.Apply ((bytes_eq-Decides m n).0 p.0 i) (is_all ms es p.1 i)
is_layer _ _ k = absurd (false≢true k)

is_rolled : (y : IsLayer) → Is (roll-Mexp (is_mexps y))
is_rolled y e k = ap roll-Mexp (is_layer y (out-Mexp e) (sym (test_at (is_mexps y) e) ∙ k)) ∙ roll-out-Mexp e

mexp_is : (m : Mexp) → Is m
mexp_is = ind-Mexp Is (λ x y is. subst (λ z. Is (roll-Mexp z)) is (is_rolled y))

-- each module expression passes the test with itself

abbrev Same : Mexp → Type 0
Same m = mexp_eq m m ≡ true

abbrev SameLayer : Type 0
SameLayer = layer.Mexp-F ((m : Mexp) × Same m)

abbrev same_mexps : SameLayer → Layer
same_mexps = map-Mexp ((m : Mexp) × Same m) Mexp (λ e. e.0)

same_all : (ms : List ((m : Mexp) × Same m)) → all_same (map mexp_eq (map (λ e. e.0) ms)) (map (λ e. e.0) ms) ≡ true
same_all [] = refl
same_all (m ∷ ms) = and_from _ _ m.1 (same_all ms)

bytes_same : (xs : List ℕ) → bytes_eq xs xs ≡ true
bytes_same xs = (bytes_eq-Decides xs xs).1 refl

same_self : (y : SameLayer) → same_layer (tests (same_mexps y)) (same_mexps y) ≡ true
same_self (layer.Name m) = bytes_same m
same_self (layer.Apply m ms) = and_from _ _ (bytes_same m) (same_all ms)

same_rolled : (y : SameLayer) → Same (roll-Mexp (same_mexps y))
same_rolled y =
    test_at (same_mexps y) (roll-Mexp (same_mexps y))
    ∙ ap (same_layer (tests (same_mexps y))) (out-roll-Mexp (same_mexps y))
    ∙ same_self y

mexp_same : (m : Mexp) → Same m
mexp_same = ind-Mexp Same (λ x y is. subst (λ z. Same (roll-Mexp z)) is (same_rolled y))

pub mexp_eq-Decides : (m e : Mexp) → Decides (mexp_eq m e) (m ≡ e)
mexp_eq-Decides m e = (mexp_is m e, λ k. subst (λ z. mexp_eq m z ≡ true) k (mexp_same m))

-- an answer that is true exactly at equal module expressions is the test
pub mexp_test : (b : Bool) (m e : Mexp) → IsTrue b ↔ (m ≡ e) → b ≡ mexp_eq m e
mexp_test b m e h = same_from_decides b (mexp_eq m e) h (mexp_eq-Decides m e)
