-- The test of types decides their equality.
use Rattle.std.proofs.Common.{◌≡◌, ℕ, ◌==◌, Bool, true, bytes_eq, List, [], ◌∷◌, map, refl, sym, ap, subst, ◌∙◌, ◌↔◌, IsTrue, Decides}
use Rattle.std.proofs.lemmas.Bool.{and_from, and_parts, false≢true}
use Rattle.std.proofs.lemmas.Bool.Decides.{Decides-eqb, same_from_decides}
use Rattle.std.proofs.lemmas.Slice.Eq.{bytes_eq-Decides}
use Rattle.gb_core.specs.declared.ty.Ty.{Ty, roll-Ty, out-Ty}
use Rattle.gb_core.specs.declared.ty.Ty.TheOpen as layer
use Rattle.gb_core.specs.declared.ty.Ty.TheViews.{roll-out-Ty, out-roll-Ty}
use Rattle.gb_core.specs.declared.ty.Ty.TheFolds.{map-Ty, ind-Ty, fold-roll-Ty}
use Rattle.gb_core.specs.SameTypes.{Test, all_same, same_layer, at_ty, ty_eq}

abbrev Layer : Type 0
Layer = layer.Ty-F Ty

-- a layer with the tests of its parts
abbrev tests : Layer → layer.Ty-F Test
tests = map-Ty Ty Test ty_eq

test_at : (x : Layer) (t : Ty) → ty_eq (roll-Ty x) t ≡ same_layer (tests x) (out-Ty t)
test_at x t = ap (λ f. f t) (fold-roll-Ty Test at_ty x)

-- types that pass the test are one

abbrev Is : Ty → Type 0
Is t = (u : Ty) → ty_eq t u ≡ true → t ≡ u

abbrev IsLayer : Type 0
IsLayer = layer.Ty-F ((t : Ty) × Is t)

abbrev is_types : IsLayer → Layer
is_types = map-Ty ((t : Ty) × Is t) Ty (λ e. e.0)

is_all : (es : List ((t : Ty) × Is t)) (ts : List Ty) → all_same (map ty_eq (map (λ e. e.0) es)) ts ≡ true → map (λ e. e.0) es ≡ ts
is_all [] [] e = refl
is_all (x ∷ es) (t ∷ ts) e = let p = and_parts _ _ e in λ i. x.1 t p.0 i ∷ is_all es ts p.1 i
is_all _ _ e = absurd (false≢true e)

is_layer : (y : IsLayer) (z : Layer) → same_layer (tests (is_types y)) z ≡ true → is_types y ≡ z
is_layer layer.Unit layer.Unit e = refl
is_layer layer.Bool layer.Bool e = refl
is_layer layer.Int layer.Int e = refl
is_layer layer.Real layer.Real e = refl
is_layer (layer.Bits m) (layer.Bits n) e = ap layer.Bits ((Decides-eqb m n).0 e)
is_layer (layer.Mod m) (layer.Mod n) e = ap layer.Mod ((Decides-eqb m n).0 e)
is_layer (layer.Enumeration x m) (layer.Enumeration y n) e =
    let p = and_parts _ _ e in λ i. layer.Enumeration ((bytes_eq-Decides x y).0 p.0 i) ((Decides-eqb m n).0 p.1 i)
is_layer (layer.Tuple es) (layer.Tuple ts) e = ap layer.Tuple (is_all es ts e)
is_layer (layer.Opt x) (layer.Opt t) e = ap layer.Opt (x.1 t e)
is_layer (layer.Map x y) (layer.Map t u) e = let p = and_parts _ _ e in λ i. layer.Map (x.1 t p.0 i) (y.1 u p.1 i)
is_layer (layer.Abstract x) (layer.Abstract y) e = ap layer.Abstract ((bytes_eq-Decides x y).0 e)
is_layer (layer.Glob x) (layer.Glob y) e = ap layer.Glob ((bytes_eq-Decides x y).0 e)
is_layer (layer.Distr x) (layer.Distr t) e = ap layer.Distr (x.1 t e)
is_layer _ _ e = absurd (false≢true e)

is_rolled : (y : IsLayer) → Is (roll-Ty (is_types y))
is_rolled y u e = ap roll-Ty (is_layer y (out-Ty u) (sym (test_at (is_types y) u) ∙ e)) ∙ roll-out-Ty u

ty_is : (t : Ty) → Is t
ty_is = ind-Ty Is (λ x y is. subst (λ z. Is (roll-Ty z)) is (is_rolled y))

-- each type passes the test with itself

abbrev Same : Ty → Type 0
Same t = ty_eq t t ≡ true

abbrev SameLayer : Type 0
SameLayer = layer.Ty-F ((t : Ty) × Same t)

abbrev same_types : SameLayer → Layer
same_types = map-Ty ((t : Ty) × Same t) Ty (λ e. e.0)

bytes_same : (xs : List ℕ) → bytes_eq xs xs ≡ true
bytes_same xs = (bytes_eq-Decides xs xs).1 refl

number_same : (n : ℕ) → (n == n) ≡ true
number_same n = (Decides-eqb n n).1 refl

same_all : (es : List ((t : Ty) × Same t)) → all_same (map ty_eq (map (λ e. e.0) es)) (map (λ e. e.0) es) ≡ true
same_all [] = refl
same_all (x ∷ es) = and_from _ _ x.1 (same_all es)

same_self : (y : SameLayer) → same_layer (tests (same_types y)) (same_types y) ≡ true
same_self layer.Unit = refl
same_self layer.Bool = refl
same_self layer.Int = refl
same_self layer.Real = refl
same_self (layer.Bits m) = number_same m
same_self (layer.Mod m) = number_same m
same_self (layer.Enumeration x m) = and_from _ _ (bytes_same x) (number_same m)
same_self (layer.Tuple es) = same_all es
same_self (layer.Opt x) = x.1
same_self (layer.Map x y) = and_from _ _ x.1 y.1
same_self (layer.Abstract x) = bytes_same x
same_self (layer.Glob x) = bytes_same x
same_self (layer.Distr x) = x.1

same_rolled : (y : SameLayer) → Same (roll-Ty (same_types y))
same_rolled y =
    test_at (same_types y) (roll-Ty (same_types y))
    ∙ ap (same_layer (tests (same_types y))) (out-roll-Ty (same_types y))
    ∙ same_self y

ty_same : (t : Ty) → Same t
ty_same = ind-Ty Same (λ x y is. subst (λ z. Same (roll-Ty z)) is (same_rolled y))

pub ty_eq-Decides : (s t : Ty) → Decides (ty_eq s t) (s ≡ t)
ty_eq-Decides s t = (ty_is s t, λ e. subst (λ u. ty_eq s u ≡ true) e (ty_same s))

-- an answer that is true exactly at equal types is the test
pub types_test : (b : Bool) (s t : Ty) → IsTrue b ↔ (s ≡ t) → b ≡ ty_eq s t
types_test b s t h = same_from_decides b (ty_eq s t) h (ty_eq-Decides s t)
