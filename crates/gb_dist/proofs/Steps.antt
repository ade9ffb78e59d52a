-- Steps of loops over rows.
use Rattle.std.proofs.Common.{◌≡◌, ℕ, suc, zero, ◌+◌, ◌*◌, ◌<◌, ◌≤◌, Bool, true, false, List, [], ◌∷◌, ◌++◌, length, get_or, drop, refl, sym, ap, ◌∙◌, arith, subst}
use Rattle.std.proofs.lemmas.List.{drop_more, append_assoc, map-append, drop_all, append-nil}
use Rattle.std.proofs.Math.Nat.{mul-pos}
use Rattle.std.proofs.lemmas.Nat.{mul-le}
use Rattle.std.specs.Prelude.{◌&&◌, nat_lt}
use Rattle.gb_core.specs.declared.value.Value.{Value}
use Rattle.gb_dist.specs.WeightedList.{WeightedList, total, scale}
use Rattle.gb_dist.proofs.Masses.{mass-append, mass-scale}
use Rattle.gb_core.specs.Numbering.{Numbering}
use Rattle.gb_dist.specs.declared.row.Row.{Row}
use Rattle.gb_dist.specs.Lists.{kept, is_positive, values_below}
use Rattle.gb_dist.specs.Rows.{entries, weight_of}

-- the entry of a row
abbrev pub entry : Row → Value × ℕ
entry r = (r.value, r.weight)

pub entries_more : (rs : List Row) (i : ℕ) (r : Row) → i < length rs → r ≡ get_or rs i r → entries (drop i rs) ≡ entry r ∷ entries (drop (i + 1) rs)
entries_more rs i r h e = ap entries (drop_more rs i r h) ∙ ap (λ (x : Row). entry x ∷ entries (drop (i + 1) rs)) (sym e)

weight_within_all : (rs : List Row) (i : ℕ) (r : Row) → i < length rs → (get_or rs i r).weight ≤ weight_of rs
weight_within_all [] i r h = absurd (omega arith)
weight_within_all (x ∷ rs) zero r h = omega arith
weight_within_all (x ∷ rs) (suc i) r h = omega (arith, weight_within_all rs i r (omega arith))

-- a row weighs at most what all weigh
pub weight_within : (rs : List Row) (i : ℕ) (r : Row) → i < length rs → r ≡ get_or rs i r → r.weight ≤ weight_of rs
weight_within rs i r h e = subst (λ (x : Row). x.weight ≤ weight_of rs) (sym e) (weight_within_all rs i r h)

pub kept_true : (bs : List Bool) (rs : List Row) (i : ℕ) (b : Bool) (r : Row) → i < length bs → i < length rs → get_or bs i b ≡ true → r ≡ get_or rs i r
    → kept (drop i bs) (entries (drop i rs)) ≡ entry r ∷ kept (drop (i + 1) bs) (entries (drop (i + 1) rs))
kept_true bs rs i b r h k t e = rw (drop_more bs i b h, t, entries_more rs i r k e) refl

pub kept_false : (bs : List Bool) (rs : List Row) (i : ℕ) (b : Bool) (r : Row) → i < length bs → i < length rs → get_or bs i b ≡ false
    → kept (drop i bs) (entries (drop i rs)) ≡ kept (drop (i + 1) bs) (entries (drop (i + 1) rs))
kept_false bs rs i b r h k t = rw (drop_more bs i b h, t, drop_more rs i r k) refl

total_kept_none : (bs : List Bool) → total (kept bs []) ≤ 0
total_kept_none [] = omega arith
total_kept_none (true ∷ bs) = omega arith
total_kept_none (false ∷ bs) = omega arith

pub total_kept : (bs : List Bool) (l : WeightedList Value) → total (kept bs l) ≤ total l
total_kept [] l = omega arith
total_kept (b ∷ bs) [] = total_kept_none (b ∷ bs)
total_kept (true ∷ bs) (e ∷ l) = omega (arith, total_kept bs l)
total_kept (false ∷ bs) (e ∷ l) = omega (arith, total_kept bs l)

pub both : (a b : Bool) → (a && b) ≡ true → (a ≡ true) × (b ≡ true)
both true b h = (refl, h)
both false b h = cc

kept_none : (bs : List Bool) → is_positive (kept bs []) ≡ true
kept_none [] = refl
kept_none (true ∷ bs) = refl
kept_none (false ∷ bs) = refl

pub positive_kept : (bs : List Bool) (l : WeightedList Value) → is_positive l ≡ true → is_positive (kept bs l) ≡ true
positive_kept [] l h = refl
positive_kept (b ∷ bs) [] h = kept_none (b ∷ bs)
positive_kept (true ∷ bs) (e ∷ l) h = let p = both (nat_lt 0 e.1) (is_positive l) h in rw (p.0, positive_kept bs l p.1) refl
positive_kept (false ∷ bs) (e ∷ l) h = positive_kept bs l (both (nat_lt 0 e.1) (is_positive l) h).1

pub above_true : (n : ℕ) → 0 < n → nat_lt 0 n ≡ true
above_true n h = grind arith

pub true_above : (n : ℕ) → nat_lt 0 n ≡ true → 0 < n
true_above n h = grind arith

pub positive_scale : (c : ℕ) (l : WeightedList Value) → 0 < c → is_positive l ≡ true → is_positive (scale c l) ≡ true
positive_scale c [] h p = refl
positive_scale c (e ∷ l) h p =
    let q = both (nat_lt 0 e.1) (is_positive l) p in
    rw (above_true (c * e.1) (mul-pos h (true_above e.1 q.0)), positive_scale c l h q.1) refl

pub total_scale : (c : ℕ) (l : WeightedList Value) → total (scale c l) ≡ c * total l
total_scale c l = mass-scale c l (λ a. 1)

pub positive_append : (l r : WeightedList Value) → is_positive l ≡ true → is_positive r ≡ true → is_positive (l ++ r) ≡ true
positive_append [] r h k = k
positive_append (e ∷ l) r h k = let p = both (nat_lt 0 e.1) (is_positive l) h in rw (p.0, positive_append l r p.1 k) refl

pub total_values : (t : Numbering) (n : ℕ) → total (values_below t n) ≡ n
total_values t zero = refl
total_values t (suc n) = mass-append (values_below t n) ((t.at n, 1) ∷ []) (λ a. 1) ∙ omega (arith, total_values t n)

pub positive_values : (t : Numbering) (n : ℕ) → is_positive (values_below t n) ≡ true
positive_values t zero = refl
positive_values t (suc n) = positive_append (values_below t n) ((t.at n, 1) ∷ []) (positive_values t n) refl

-- a loop keeps a row
pub keep_step : (bs : List Bool) (rs out more : List Row) (i : ℕ) (r row : Row) (all : WeightedList Value) → i < length bs → i < length rs → get_or bs i false ≡ true → r ≡ get_or rs i r
    → more ≡ out ++ row ∷ [] → entry row ≡ entry r
    → entries out ++ kept (drop i bs) (entries (drop i rs)) ≡ all → entries more ++ kept (drop (i + 1) bs) (entries (drop (i + 1) rs)) ≡ all
keep_step bs rs out more i r row all h k t e m same before =
    ap (λ (l : List Row). entries l ++ kept (drop (i + 1) bs) (entries (drop (i + 1) rs))) m
    ∙ ap (λ (l : WeightedList Value). l ++ kept (drop (i + 1) bs) (entries (drop (i + 1) rs))) (map-append entry out (row ∷ []))
    ∙ append_assoc (entries out) (entry row ∷ []) (kept (drop (i + 1) bs) (entries (drop (i + 1) rs)))
    ∙ ap (λ (x : Value × ℕ). entries out ++ x ∷ kept (drop (i + 1) bs) (entries (drop (i + 1) rs))) same
    ∙ ap (λ (l : WeightedList Value). entries out ++ l) (sym (kept_true bs rs i false r h k t e))
    ∙ before

-- a loop adds a weight
pub add_step : (bs : List Bool) (rs : List Row) (i sum : ℕ) (r : Row) (all : ℕ) → i < length bs → i < length rs → get_or bs i false ≡ true → r ≡ get_or rs i r
    → sum + total (kept (drop i bs) (entries (drop i rs))) ≡ all → sum + r.weight + total (kept (drop (i + 1) bs) (entries (drop (i + 1) rs))) ≡ all
add_step bs rs i sum r all h k t e before = omega (arith, ap (λ (l : WeightedList Value). total l) (kept_true bs rs i false r h k t e))

pub weigh_step : (rs : List Row) (i : ℕ) (r : Row) → i < length rs → r ≡ get_or rs i r → weight_of (drop i rs) ≡ r.weight + weight_of (drop (i + 1) rs)
weigh_step rs i r h e = ap (λ (l : WeightedList Value). total l) (entries_more rs i r h e) ∙ omega arith

-- loops that are done
pub finished : (out : List Row) (rs : List Row) (i : ℕ) (f : WeightedList Value → WeightedList Value) (all : WeightedList Value) → f [] ≡ [] → length rs ≤ i
    → entries out ++ f (entries (drop i rs)) ≡ all → entries out ≡ all
finished out rs i f all none h e =
    sym (append-nil (entries out)) ∙ ap (λ l. entries out ++ l) (sym none) ∙ ap (λ (l : List Row). entries out ++ f (entries l)) (sym (drop_all i rs h)) ∙ e

kept_of_none : (bs : List Bool) → kept bs [] ≡ []
kept_of_none [] = refl
kept_of_none (true ∷ bs) = refl
kept_of_none (false ∷ bs) = refl

pub kept_all : (out rs : List Row) (i : ℕ) (bs : List Bool) (all : WeightedList Value) → length rs ≤ i → entries out ++ kept (drop i bs) (entries (drop i rs)) ≡ all → entries out ≡ all
kept_all out rs i bs all h e = finished out rs i (kept (drop i bs)) all (kept_of_none (drop i bs)) h e

pub scaled_bound : (c n w t : ℕ) → w ≤ n → t ≡ n * c → c * w ≤ t
scaled_bound c n w t h e = omega (arith, e, mul-le c w c n (omega arith) h)
