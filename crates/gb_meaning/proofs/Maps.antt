-- Finite maps from paths: reading after writing, and equality.
use Rattle.std.proofs.Common.{◌≡◌, ◌≢◌, Bool, true, false, cond, Some, Ordering, Less, Equal, Greater, List, refl, ap, sym, ◌∙◌}
use Rattle.std.specs.Cmp.{tied_itself}
use Rattle.std.specs.Ordering.{eq_by_cmp, is_eq}
use Rattle.std.specs.FinMap.{IsAntisymmetric, slice_cmp-IsAntisymmetric, nat_cmp-IsAntisymmetric, is_sorted}
use Rattle.std.specs.FinMap.Entries.{find-put, same_entries}
use lib.Dec.{T, T_prop}
use mathlib.Core.HLevel.{Σ_prop_path}
use Rattle.gb_core.specs.declared.value.Value.{Value}
use Rattle.gb_meaning.specs.Names.{Path, path_order, path_order_total, Map, get, set}

pub path_order-same : IsAntisymmetric path_order
path_order-same = slice_cmp-IsAntisymmetric (slice_cmp-IsAntisymmetric nat_cmp-IsAntisymmetric)

equal_of : (r : Ordering) → is_eq r ≡ true → r ≡ Equal
equal_of Less h = cc
equal_of Equal h = refl
equal_of Greater h = cc

tied : (x y : Path) → eq_by_cmp path_order x y ≡ true → x ≡ y
tied x y h = path_order-same x y (equal_of (path_order x y) h)

itself : (x : Path) → eq_by_cmp path_order x x ≡ true
itself x = ap is_eq (tied_itself path_order_total x)

apart : (x y : Path) → x ≢ y → eq_by_cmp path_order x y ≡ false
apart x y h = step (eq_by_cmp path_order x y) refl
  where
    step : (b : Bool) → eq_by_cmp path_order x y ≡ b → eq_by_cmp path_order x y ≡ false
    step true e = absurd (h (tied x y e))
    step false e = e

pub path_discrete : Discrete Path
path_discrete x y = step (eq_by_cmp path_order x y) refl
  where
    step : (b : Bool) → eq_by_cmp path_order x y ≡ b → Dec (x ≡ y)
    step true e = yes (tied x y e)
    step false e = no (λ p. let k : eq_by_cmp path_order x y ≡ true = ap (eq_by_cmp path_order x) (sym p) ∙ itself x in cc)

get-set : (m : Map) (x : Path) (v : Value) (y : Path) → get (set m x v) y ≡ cond (eq_by_cmp path_order y x) (Some v) (get m y)
get-set m x v y = find-put path_order path_order_total y x v m.entries

pub get-set_same : (m : Map) (x : Path) (v : Value) → get (set m x v) x ≡ Some v
get-set_same m x v = get-set m x v x ∙ ap (λ b. cond b (Some v) (get m x)) (itself x)

pub get-set_other : (m : Map) (x : Path) (v : Value) (y : Path) → y ≢ x → get (set m x v) y ≡ get m y
get-set_other m x v y h = get-set m x v y ∙ ap (λ b. cond b (Some v) (get m y)) (apart y x h)

pub same_of_entries : (m n : Map) → m.entries ≡ n.entries → m ≡ n
same_of_entries m n e =
    let pairs : ◌≡◌ {A = (es : List (Path × Value)) × T (is_sorted path_order es)} (m.entries, m.sorted) (n.entries, n.sorted) = Σ_prop_path (λ es. T_prop _) e in
    λ i. record { entries = (pairs i).0; sorted = (pairs i).1 }

-- maps that answer alike are equal
pub map_same : (m n : Map) → ((x : Path) → get m x ≡ get n x) → m ≡ n
map_same m n h = same_of_entries m n (same_entries path_order path_order_total path_order-same m.entries n.entries m.sorted n.sorted h)

pub set-set_same : (m : Map) (x : Path) (v w : Value) → set (set m x v) x w ≡ set m x w
set-set_same m x v w = map_same _ _ (λ y. get-set (set m x v) x w y ∙ step y (eq_by_cmp path_order y x) (get-set m x v y) ∙ sym (get-set m x w y))
  where
    step : (y : Path) (b : Bool) → get (set m x v) y ≡ cond b (Some v) (get m y) → cond b (Some w) (get (set m x v) y) ≡ cond b (Some w) (get m y)
    step y true e = refl
    step y false e = e

pub set-set_other : (m : Map) (x : Path) (v : Value) (y : Path) (w : Value) → x ≢ y → set (set m x v) y w ≡ set (set m y w) x v
set-set_other m x v y w h = map_same _ _ (λ z. get-set (set m x v) y w z ∙ ap (cond (eq_by_cmp path_order z y) (Some w)) (get-set m x v z)
    ∙ step z (eq_by_cmp path_order z x) (eq_by_cmp path_order z y) refl refl ∙ sym (get-set (set m y w) x v z ∙ ap (cond (eq_by_cmp path_order z x) (Some v)) (get-set m y w z)))
  where
    step : (z : Path) (b c : Bool) → eq_by_cmp path_order z x ≡ b → eq_by_cmp path_order z y ≡ c → cond c (Some w) (cond b (Some v) (get m z)) ≡ cond b (Some v) (cond c (Some w) (get m z))
    step z true true p r = absurd (h (sym (tied z x p) ∙ tied z y r))
    step z true false p r = refl
    step z false true p r = refl
    step z false false p r = refl
