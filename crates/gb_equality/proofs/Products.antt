-- The number of assignments to variables.
use Rattle.std.proofs.Common.{◌≡◌, ℕ, ◌+◌, ◌*◌, ◌^◌, ◌<◌, Bool, true, false, ◌&&◌, cond, nat_lt, min, List, [], ◌∷◌, ◌++◌, length, get_or, map, take, refl, sym, ap, ◌∙◌, subst, mul_assoc, arith}
use Rattle.std.proofs.Math.Nat.{min-eq_left}
use Rattle.std.proofs.lemmas.Bool.{ltb-true, lt-ltb}
use Rattle.std.proofs.lemmas.Bool.Decides.{nat_tests}
use Rattle.std.proofs.lemmas.List.{map_more}
use Rattle.gb_core.specs.declared.ty.Ty.{Ty}
use Rattle.gb_core.specs.declared.ty.Ty.TheVariants.{Distr, Tuple, rolls-Tuple}
use Rattle.gb_core.specs.declared.ty.Ty.TheOpen as t
use Rattle.gb_core.specs.declared.ty.Ty.TheFolds.{fold-roll-Ty}
use Rattle.gb_core.specs.declared.value.Card.{Card}
use Rattle.gb_core.specs.declared.value.Card.TheVariants.{Exact, Above}
use Rattle.gb_core.specs.Numbering.{tuples}
use Rattle.gb_core.specs.Types.{all_true, finite_step, is_finite, numbering, size_of, card_of, IsPlaceBelow}
use Rattle.gb_core.proofs.Capped.{min_times}
use Rattle.gb_core.proofs.Equations.{numbering-Tuple}
use Rattle.gb_meaning.specs.Operators.{outcome_type}
use Rattle.gb_laws.proofs.Constructors.{distribution_is}

-- the number of tuples of values of types
abbrev pub product : List Ty → ℕ
product ts = tuples (map numbering ts)

abbrev pub are_finite : List Ty → Bool
are_finite ts = all_true (map is_finite ts)

product-append : (xs ys : List Ty) → product (xs ++ ys) ≡ product xs * product ys
product-append [] ys = omega arith
product-append (x ∷ xs) ys = rw (product-append xs ys) (sym (mul_assoc (size_of x) (product xs) (product ys)))

-- products up to the limit of two lists of types make the one of both
pub product_both : (xs ys : List Ty) (x y z : ℕ) → x ≡ min (product xs) (2 ^ 63) → y ≡ min (product ys) (2 ^ 63) → z ≡ min (x * y) (2 ^ 63) → z ≡ min (product (xs ++ ys)) (2 ^ 63)
product_both xs ys x y z p q r =
    r ∙ (λ i. min (p i * q i) (2 ^ 63)) ∙ min_times (2 ^ 63) (product xs) (product ys) (omega arith) ∙ ap (λ n. min n (2 ^ 63)) (sym (product-append xs ys))

pub product_more : {X : Type 0} (f : X → Ty) (vs : List X) (i : ℕ) (v : X) (x y z : ℕ) → i < length vs → v ≡ get_or vs i v → x ≡ min (product (map f (take i vs))) (2 ^ 63) → y ≡ min (size_of (f v)) (2 ^ 63) → z ≡ min (x * y) (2 ^ 63) → z ≡ min (product (map f (take (i + 1) vs))) (2 ^ 63)
product_more f vs i v x y z l e p q r =
    let one : size_of (f v) ≡ product (f v ∷ []) = omega arith in
    product_both (map f (take i vs)) (f v ∷ []) x y z p (q ∙ ap (λ n. min n (2 ^ 63)) one) r
    ∙ ap (λ w. min (product (map f (take i vs) ++ f w ∷ [])) (2 ^ 63)) e
    ∙ ap (λ ts. min (product ts) (2 ^ 63)) (sym (map_more f vs i v l))

-- the number of the values of a tuple, from what its types are

abbrev pub card_by : Bool → ℕ → Card
card_by b n = cond (b && nat_lt n (2 ^ 63)) (Exact n) Above

above_if : (b : Bool) (n : ℕ) → nat_lt n (2 ^ 63) ≡ false → card_by b n ≡ Above
above_if true n h = ap (λ c. cond c (Exact n) Above) h
above_if false n h = refl

up_to_limit : (b : Bool) (n : ℕ) (c : Bool) → nat_lt n (2 ^ 63) ≡ c → card_by b (min n (2 ^ 63)) ≡ card_by b n
up_to_limit b n true h =
    let l : n < 2 ^ 63 = ltb-true n (2 ^ 63) h in
    let e : min n (2 ^ 63) ≡ n = min-eq_left (omega arith) in
    ap (card_by b) e
up_to_limit b n false h =
    let k : nat_lt (min n (2 ^ 63)) (2 ^ 63) ≡ false = grind (arith, nat_tests) in
    above_if b (min n (2 ^ 63)) k ∙ sym (above_if b n h)

finite-Tuple : (ts : List Ty) → is_finite (Tuple ts) ≡ are_finite ts
finite-Tuple ts = ap is_finite (sym (rolls-Tuple ts)) ∙ fold-roll-Ty Bool finite_step (t.Tuple ts)

card-Tuple : (ts : List Ty) → card_of (Tuple ts) ≡ card_by (are_finite ts) (product ts)
card-Tuple ts = λ i. card_by (finite-Tuple ts i) (numbering-Tuple ts i).size

pub card_of_types : (ts : List Ty) (b : Bool) (n : ℕ) → b ≡ are_finite ts → n ≡ min (product ts) (2 ^ 63) → card_by b n ≡ card_of (Tuple ts)
card_of_types ts b n p q =
    (λ i. card_by (p i) (q i)) ∙ up_to_limit (are_finite ts) (product ts) (nat_lt (product ts) (2 ^ 63)) refl ∙ sym (card-Tuple ts)

-- what a place below the number of tuples tells
pub record Counted (ts : List Ty) (at : ℕ) : Type 0 where
  pub finite : are_finite ts ≡ true
  pub below : at < product ts
  pub exact : product ts < 2 ^ 63

counted_by : (b : Bool) (n at : ℕ) → IsPlaceBelow at (card_by b n) → (b ≡ true) × (at < n) × (n < 2 ^ 63)
counted_by false n at h = absurd h
counted_by true n at h = by_test (nat_lt n (2 ^ 63)) refl h
  where
    by_test : (c : Bool) → nat_lt n (2 ^ 63) ≡ c → IsPlaceBelow at (cond c (Exact n) Above) → (true ≡ true) × (at < n) × (n < 2 ^ 63)
    by_test true e k = (refl, k, ltb-true n (2 ^ 63) e)
    by_test false e k = absurd k

pub counted : (ts : List Ty) (at : ℕ) → IsPlaceBelow at (card_of (Tuple ts)) → Counted ts at
counted ts at h =
    let p = counted_by (are_finite ts) (product ts) at (subst (IsPlaceBelow at) (card-Tuple ts) h) in
    record { finite = p.0; below = p.1; exact = p.2 }

pub place_below : (ty : Ty) (at : ℕ) → is_finite ty ≡ true → size_of ty < 2 ^ 63 → at < size_of ty → IsPlaceBelow at (card_of ty)
place_below ty at f l h = subst (IsPlaceBelow at) (sym (λ i. cond (f i && lt-ltb (size_of ty) (2 ^ 63) l i) (Exact (size_of ty)) Above)) h

-- how many outcomes a distribution may have
pub outcomes_size : (u v w : Ty) (n : ℕ) → u ≡ Distr v → w ≡ v → n ≡ min (size_of w) (2 ^ 63) → n ≡ min (size_of (outcome_type u)) (2 ^ 63)
outcomes_size u v w n e f g = g ∙ ap (λ z. min (size_of z) (2 ^ 63)) (f ∙ sym (ap outcome_type (e ∙ distribution_is v)))
