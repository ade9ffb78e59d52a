-- Fractions that are the same by cross products.
use Rattle.std.proofs.Common.{◌≡◌, ℕ, zero, suc, ◌+◌, ◌*◌, ◌<◌, ◌≤◌, Bool, true, false, ℤ, pos, negsuc, ◌+ℤ◌, ◌-ℤ◌, ◌*ℤ◌, unsigned_abs, int_lt, int_le, is_lt, is_le, int_cmp, cond, refl, sym, ap, ◌∙◌, arith}
use Rattle.std.specs.Prelude.{neg_ℤ, ◌<ℤ◌, ◌≤ℤ◌}
use Rattle.std.specs.declared.cmp.Ordering.TheVariants.{Less, Equal, Greater}
use Rattle.std.proofs.lemmas.Int.{ints, unsigned_abs-mul}
use Rattle.std.proofs.Math.Nat.{mul-le-mul_right}
use borrow.Author.Differences.{up, down}
use Rattle.gb_dist.specs.Fractions.{Fraction, IsSame, crossed, plus, minus, times, over, absolute, reduced, order}
use Rattle.gb_dist.proofs.Lowest.{IsSame-reduced, IsLowest-reduced}
use Rattle.gb_meaning.specs.Fractions as m
use Rattle.gb_meaning.specs.Setting.{Meaning as meaning}
use Rattle.gb_eval.specs.Meant.{IsFraction}
use Rattle.gb_eval.specs.Operators.{zero_fraction}

pub above_product : (a b : ℕ) → 0 < a → 0 < b → 0 < a * b
above_product (suc a) (suc b) h k = omega arith
above_product zero b h k = absurd (omega arith)
above_product (suc a) zero h k = absurd (omega arith)

-- a whole number z is `up z - down z`

abbrev Same : Fraction → Fraction → Type 0
Same a b = up a.0 * b.1 + down b.0 * a.1 ≡ up b.0 * a.1 + down a.0 * b.1

parts : (a b : Fraction) → IsSame a b → Same a b
parts a b h = omega (arith, ints, h)

whole : (a b : Fraction) → Same a b → IsSame a b
whole a b h = omega (arith, ints, h)

scaled : (x : ℤ) (m : ℕ) → up (x *ℤ pos m) + down x * m ≡ down (x *ℤ pos m) + up x * m
scaled x m = omega (arith, ints)

sum : (x y : ℤ) (m n : ℕ) → up (x *ℤ pos m +ℤ y *ℤ pos n) + (down x * m + down y * n) ≡ down (x *ℤ pos m +ℤ y *ℤ pos n) + (up x * m + up y * n)
sum x y m n = omega (arith, ints)

difference : (x y : ℤ) (m n : ℕ) → up (x *ℤ pos m -ℤ y *ℤ pos n) + (down x * m + up y * n) ≡ down (x *ℤ pos m -ℤ y *ℤ pos n) + (up x * m + down y * n)
difference x y m n = omega (arith, ints)

product : (x y : ℤ) → up (x *ℤ y) + (up x * down y + down x * up y) ≡ down (x *ℤ y) + (up x * up y + down x * down y)
product x y = omega (arith, ints)

-- comparisons

test_of : (x y : ℤ) (t : Bool) → (t ≡ true → x <ℤ y) → (t ≡ false → y ≤ℤ x) → int_lt x y ≡ t
test_of x y true f g = step (int_lt x y) refl (f refl)
  where
    step : (b : Bool) → int_lt x y ≡ b → x <ℤ y → b ≡ true
    step true e h = refl
    step false e h = absurd (omega (arith, ints))
test_of x y false f g = step (int_lt x y) refl (g refl)
  where
    step : (b : Bool) → int_lt x y ≡ b → y ≤ℤ x → b ≡ false
    step true e h = absurd (omega (arith, ints))
    step false e h = refl

scaled_below : (a b p : ℕ) → 0 < p → a < b → a * p < b * p
scaled_below a b (suc p) h l = omega (arith, mul-le-mul_right (suc p) l)
scaled_below a b zero h l = absurd (omega arith)

below_scaled : (x y : ℤ) (p : ℕ) → 0 < p → int_lt x y ≡ true → (x *ℤ pos p) <ℤ (y *ℤ pos p)
below_scaled x y p h e =
    let l : up x + down y < up y + down x = omega (arith, ints) in
    omega (arith, ints, scaled_below (up x + down y) (up y + down x) p h l, scaled x p, scaled y p)

upto_scaled : (x y : ℤ) (p : ℕ) → int_lt x y ≡ false → (y *ℤ pos p) ≤ℤ (x *ℤ pos p)
upto_scaled x y p e =
    let l : up y + down x ≤ up x + down y = omega (arith, ints) in
    omega (arith, ints, mul-le-mul_right p l, scaled x p, scaled y p)

-- whole numbers compare as their products with a number above 0 do
scaled_int : (x y : ℤ) (p : ℕ) → 0 < p → int_lt (x *ℤ pos p) (y *ℤ pos p) ≡ int_lt x y
scaled_int x y p h = test_of (x *ℤ pos p) (y *ℤ pos p) (int_lt x y) (below_scaled x y p h) (upto_scaled x y p)

cancel : (x y : ℤ) (p : ℕ) → 0 < p → x *ℤ pos p ≡ y *ℤ pos p → x ≡ y
cancel x y p h e = step (int_lt x y) (int_lt y x) refl refl
  where
    step : (a b : Bool) → int_lt x y ≡ a → int_lt y x ≡ b → x ≡ y
    step true b q r = absurd (let l = below_scaled x y p h q in omega (arith, ints))
    step false true q r = absurd (let l = below_scaled y x p h r in omega (arith, ints))
    step false false q r = omega (arith, ints)

cross_left : (a b c d : Fraction) → IsSame a b → (a.0 *ℤ pos c.1) *ℤ pos (b.1 * d.1) ≡ (b.0 *ℤ pos d.1) *ℤ pos (a.1 * c.1)
cross_left a b c d h =
    omega (arith, ints, ap (λ n. n * (b.1 * d.1)) (scaled a.0 c.1), ap (λ n. n * (a.1 * c.1)) (scaled b.0 d.1), ap (λ n. n * (c.1 * d.1)) (parts a b h))

pub same_trans : (a b c : Fraction) → 0 < b.1 → IsSame a b → IsSame b c → IsSame a c
same_trans a b c h p q =
    cancel (a.0 *ℤ pos c.1) (c.0 *ℤ pos a.1) b.1 h
    (omega (arith, ints, ap (λ n. n * b.1) (scaled a.0 c.1), ap (λ n. n * b.1) (scaled c.0 a.1), ap (λ n. n * c.1) (parts a b p), ap (λ n. n * a.1) (parts b c q)))

pub same_plus : (a b c d : Fraction) → IsSame a b → IsSame c d → IsSame (plus a c) (plus b d)
same_plus a b c d h k =
    whole (plus a c) (plus b d)
    (omega (arith, ap (λ n. n * (b.1 * d.1)) (sum a.0 c.0 c.1 a.1), ap (λ n. n * (a.1 * c.1)) (sum b.0 d.0 d.1 b.1), ap (λ n. n * (c.1 * d.1)) (parts a b h), ap (λ n. n * (a.1 * b.1)) (parts c d k)))

pub same_minus : (a b c d : Fraction) → IsSame a b → IsSame c d → IsSame (minus a c) (minus b d)
same_minus a b c d h k =
    whole (minus a c) (minus b d)
    (omega (arith, ap (λ n. n * (b.1 * d.1)) (difference a.0 c.0 c.1 a.1), ap (λ n. n * (a.1 * c.1)) (difference b.0 d.0 d.1 b.1), ap (λ n. n * (c.1 * d.1)) (parts a b h), ap (λ n. n * (a.1 * b.1)) (parts c d k)))

pub same_times : (a b c d : Fraction) → IsSame a b → IsSame c d → IsSame (times a c) (times b d)
same_times a b c d h k =
    whole (times a c) (times b d)
    (omega (
      arith,
      ap (λ n. n * (b.1 * d.1)) (product a.0 c.0),
      ap (λ n. n * (a.1 * c.1)) (product b.0 d.0),
      ap (λ n. n * (up c.0 * d.1)) (parts a b h),
      ap (λ n. n * (down c.0 * d.1)) (parts a b h),
      ap (λ n. n * (up b.0 * a.1)) (parts c d k),
      ap (λ n. n * (down b.0 * a.1)) (parts c d k),
    ))

opposite_parts : (z : ℤ) → up (neg_ℤ z) + up z ≡ down (neg_ℤ z) + down z
opposite_parts z = omega (arith, ints)

pub same_opposite : (a b : Fraction) → IsSame a b → IsSame (minus zero_fraction a) (m.opposite b)
same_opposite a b h =
    whole (minus zero_fraction a) (m.opposite b)
    (omega (arith, ap (λ n. n * b.1) (difference (pos 0) a.0 a.1 1), ap (λ n. n * a.1) (opposite_parts b.0), parts a b h))

pub same_absolute : (a b : Fraction) → IsSame a b → IsSame (absolute a) (m.absolute b)
same_absolute a b h = ap pos (sym (unsigned_abs-mul a.0 (pos b.1)) ∙ ap unsigned_abs h ∙ unsigned_abs-mul b.0 (pos a.1))

-- by a whole number above 0
pub same_over : (a b d : Fraction) (n : ℕ) → IsSame a b → 0 < d.1 → IsSame (pos (suc n), 1) d → IsSame (over a (pos (suc n))) (m.quotient b d)
same_over a b (pos zero, e) n h l k = absurd (omega (arith, ints, k, above_product (suc n) e (omega arith) l))
same_over a b (negsuc d, e) n h l k = absurd (omega (arith, ints, k))
same_over a b (pos (suc d), e) n h l k =
    let f : suc n * e ≡ suc d = omega (arith, ints, k) in
    whole (over a (pos (suc n))) (m.quotient b (pos (suc d), e))
    (omega (arith, ap (λ n. n * suc d) (parts a b h), ap (λ q. q * (a.1 * suc n)) (scaled b.0 e), ap (λ q. q * (up b.0 * a.1)) f, ap (λ q. q * (down b.0 * a.1)) f))

below_same : (a b c d : Fraction) → 0 < a.1 → 0 < b.1 → 0 < c.1 → 0 < d.1 → IsSame a b → IsSame c d → int_lt (crossed a c) (crossed c a) ≡ int_lt (crossed b d) (crossed d b)
below_same a b c d h k l r p q =
    let turned : b.1 * d.1 ≡ d.1 * b.1 = omega arith in
    let back : c.1 * a.1 ≡ a.1 * c.1 = omega arith in
    let right : (c.0 *ℤ pos a.1) *ℤ pos (b.1 * d.1) ≡ (d.0 *ℤ pos b.1) *ℤ pos (a.1 * c.1) =
    ap (λ n. (c.0 *ℤ pos a.1) *ℤ pos n) turned ∙ cross_left c d a b q ∙ ap (λ n. (d.0 *ℤ pos b.1) *ℤ pos n) back in
    sym (scaled_int (crossed a c) (crossed c a) (b.1 * d.1) (above_product b.1 d.1 k r))
    ∙ ap (λ z. int_lt z ((c.0 *ℤ pos a.1) *ℤ pos (b.1 * d.1))) (cross_left a b c d p)
    ∙ ap (λ z. int_lt ((b.0 *ℤ pos d.1) *ℤ pos (a.1 * c.1)) z) right
    ∙ scaled_int (crossed b d) (crossed d b) (a.1 * c.1) (above_product a.1 c.1 h l)

pub same_order : (a b c d : Fraction) → 0 < a.1 → 0 < b.1 → 0 < c.1 → 0 < d.1 → IsSame a b → IsSame c d → order a c ≡ order b d
same_order a b c d h k l r p q =
    ap (λ x. cond x Less (cond (int_lt (crossed c a) (crossed a c)) Greater Equal)) (below_same a b c d h k l r p q)
    ∙ ap (λ x. cond (int_lt (crossed b d) (crossed d b)) Less (cond x Greater Equal)) (below_same c d a b l r h k q p)

pub lt_of_cmp : (x y : ℤ) → is_lt (int_cmp x y) ≡ int_lt x y
lt_of_cmp x y = step (int_lt x y) (int_lt y x)
  where
    step : (a b : Bool) → is_lt (cond a Less (cond b Greater Equal)) ≡ a
    step true b = refl
    step false true = refl
    step false false = refl

pub le_of_cmp : (x y : ℤ) → is_le (int_cmp x y) ≡ int_le x y
le_of_cmp x y = step (int_lt x y) (int_lt y x) (int_le x y) refl refl refl
  where
    step : (a b c : Bool) → int_lt x y ≡ a → int_lt y x ≡ b → int_le x y ≡ c → is_le (cond a Less (cond b Greater Equal)) ≡ c
    step true b true e f g = refl
    step true b false e f g = absurd (omega (arith, ints))
    step false true false e f g = refl
    step false true true e f g = absurd (omega (arith, ints))
    step false false true e f g = refl
    step false false false e f g = absurd (omega (arith, ints))

-- a fraction in lowest terms that is found for another one
pub reduced_meant : (a b : Fraction) → 0 < a.1 → 0 < b.1 → IsSame a b → IsFraction (reduced a) (meaning.fraction b)
reduced_meant a b h k s = record {
  meant = b;
  is = refl;
  above = k;
  found_above = (IsLowest-reduced a h).above;
  same = same_trans (reduced a) a b h (IsSame-reduced a h) s;
}
