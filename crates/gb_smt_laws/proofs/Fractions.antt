-- Operations on fractions give the same from the same.
use Rattle.std.proofs.Common.{◌≡◌, ℕ, zero, suc, ◌+◌, ◌*◌, ◌/◌, ◌<◌, ◌≤◌, ◌⊎◌, inl, inr, Bool, true, false, ℤ, pos, negsuc, ◌+ℤ◌, ◌-ℤ◌, ◌*ℤ◌, neg_ℤ, refl, sym, ap, ◌∙◌, arith}
use Rattle.std.proofs.Math.Nat.{mul-div_cancel, mul-pos, mul-lt-mul_of_pos_right, mul-le-mul_right}
use Rattle.std.proofs.lemmas.Bool.{cases_order}
use Rattle.std.proofs.lemmas.Bool.Decides.{Decides-int_eq}
use Rattle.std.proofs.lemmas.Int.{ints}
use borrow.Author.Differences.{up, down}
use Rattle.gb_meaning.specs.Fractions.{Fraction, crossed, is_same, is_below, is_at_most, plus, minus, times, opposite, absolute, quotient}

-- Fractions are the same where their cross products are, as differences of natural numbers.

abbrev pub Same : Fraction → Fraction → Type 0
Same a b = up a.0 * b.1 + down b.0 * a.1 ≡ up b.0 * a.1 + down a.0 * b.1

scaled : (z : ℤ) (d : ℕ) → up (z *ℤ pos d) + down z * d ≡ down (z *ℤ pos d) + up z * d
scaled z d = omega (arith, ints)

eq_used : (x y : ℤ) → x ≡ y → up x + down y ≡ up y + down x
eq_used x y e = ap (λ z. up z + down y) e ∙ ap (λ z. up y + down z) (sym e)

eq_made : (x y : ℤ) → up x + down y ≡ up y + down x → x ≡ y
eq_made x y h = omega (arith, ints, h)

pub same_used : (a b : Fraction) → is_same a b ≡ true → Same a b
same_used a b e = omega (arith, eq_used (crossed a b) (crossed b a) ((Decides-int_eq (crossed a b) (crossed b a)).0 e), scaled a.0 b.1, scaled b.0 a.1)

pub same_made : (a b : Fraction) → Same a b → is_same a b ≡ true
same_made a b h = (Decides-int_eq (crossed a b) (crossed b a)).1 (eq_made (crossed a b) (crossed b a) (omega (arith, h, scaled a.0 b.1, scaled b.0 a.1)))

pub same_refl : (a : Fraction) → Same a a
same_refl a = refl

pub same_sym : (a b : Fraction) → Same a b → Same b a
same_sym a b h = omega (arith, h)

cancel : (m n b : ℕ) → 0 < b → m * b ≡ n * b → m ≡ n
cancel m n b h e = sym (mul-div_cancel m h) ∙ ap (λ k. k / b) e ∙ mul-div_cancel n h

pub same_trans : (a b c : Fraction) → 0 < b.1 → Same a b → Same b c → Same a c
same_trans a b c l h k =
    cancel (up a.0 * c.1 + down c.0 * a.1) (up c.0 * a.1 + down a.0 * c.1) b.1 l
    (omega (arith, ap (λ n. n * c.1) h, ap (λ n. n * a.1) k))

-- sums, differences and products

sum : (x y : ℤ) (m n : ℕ) → up (x *ℤ pos m +ℤ y *ℤ pos n) + (down x * m + down y * n) ≡ down (x *ℤ pos m +ℤ y *ℤ pos n) + (up x * m + up y * n)
sum x y m n = omega (arith, ints)

difference : (x y : ℤ) (m n : ℕ) → up (x *ℤ pos m -ℤ y *ℤ pos n) + (down x * m + up y * n) ≡ down (x *ℤ pos m -ℤ y *ℤ pos n) + (up x * m + down y * n)
difference x y m n = omega (arith, ints)

product : (x y : ℤ) → up (x *ℤ y) + (up x * down y + down x * up y) ≡ down (x *ℤ y) + (up x * up y + down x * down y)
product x y = omega (arith, ints)

-- the same of natural numbers: a numerator as a difference, and a denominator
summed : (p q r s a b d c e f k l m n o t : ℕ) → p + (b * m + f * k) ≡ q + (a * m + e * k) → r + (c * t + n * l) ≡ s + (d * t + o * l) →
    a * l + c * k ≡ d * k + b * l → e * t + n * m ≡ o * m + f * t → p * (l * t) + s * (k * m) ≡ r * (k * m) + q * (l * t)
summed p q r s a b d c e f k l m n o t x y h g =
    omega (arith, ap (λ z. z * (l * t)) x, ap (λ z. z * (k * m)) y, ap (λ z. z * (m * t)) h, ap (λ z. z * (k * l)) g)

multiplied : (p q r s a b d c e f k l m n o t : ℕ) → p + (a * f + b * e) ≡ q + (a * e + b * f) → r + (d * n + c * o) ≡ s + (d * o + c * n) →
    a * l + c * k ≡ d * k + b * l → e * t + n * m ≡ o * m + f * t → p * (l * t) + s * (k * m) ≡ r * (k * m) + q * (l * t)
multiplied p q r s a b d c e f k l m n o t x y h g =
    omega (
      arith,
      ap (λ z. z * (l * t)) x,
      ap (λ z. z * (k * m)) y,
      ap (λ z. z * (e * t)) h,
      ap (λ z. z * (f * t)) h,
      ap (λ z. z * (d * k)) g,
      ap (λ z. z * (c * k)) g,
    )

module _ (a b c d : Fraction) (h : Same a c) (g : Same b d) where
  pub same_plus : Same (plus a b) (plus c d)
  same_plus =
      summed (up (plus a b).0) (down (plus a b).0) (up (plus c d).0) (down (plus c d).0) (up a.0) (down a.0) (up c.0) (down c.0) (up b.0) (down b.0) a.1 c.1 b.1 (down d.0) (up d.0) d.1
      (sum a.0 b.0 b.1 a.1) (sum c.0 d.0 d.1 c.1) h g

  pub same_minus : Same (minus a b) (minus c d)
  same_minus =
      summed (up (minus a b).0) (down (minus a b).0) (up (minus c d).0) (down (minus c d).0) (up a.0) (down a.0) (up c.0) (down c.0) (down b.0) (up b.0) a.1 c.1 b.1 (up d.0) (down d.0) d.1
      (difference a.0 b.0 b.1 a.1) (difference c.0 d.0 d.1 c.1) h (omega (arith, g))

  pub same_times : Same (times a b) (times c d)
  same_times =
      multiplied (up (times a b).0) (down (times a b).0) (up (times c d).0) (down (times c d).0) (up a.0) (down a.0) (up c.0) (down c.0) (up b.0) (down b.0) a.1 c.1 b.1 (down d.0) (up d.0) d.1
      (product a.0 b.0) (product c.0 d.0) h g

-- comparisons

bools_same : (x y : Bool) → (x ≡ true → y ≡ true) → (y ≡ true → x ≡ true) → x ≡ y
bools_same true y f g = sym (f refl)
bools_same false true f g = g refl
bools_same false false f g = refl

below_made : (p q : Fraction) → up p.0 * q.1 + down q.0 * p.1 < up q.0 * p.1 + down p.0 * q.1 → is_below p q ≡ true
below_made p q l = by_test (is_below p q) refl
  where
    by_test : (x : Bool) → is_below p q ≡ x → x ≡ true
    by_test true e = refl
    by_test false e = absurd (omega (arith, ints, e, scaled p.0 q.1, scaled q.0 p.1, l))

below_used : (p q : Fraction) → is_below p q ≡ true → up p.0 * q.1 + down q.0 * p.1 < up q.0 * p.1 + down p.0 * q.1
below_used p q e = omega (arith, ints, e, scaled p.0 q.1, scaled q.0 p.1)

most_made : (p q : Fraction) → up p.0 * q.1 + down q.0 * p.1 ≤ up q.0 * p.1 + down p.0 * q.1 → is_at_most p q ≡ true
most_made p q l = by_test (is_at_most p q) refl
  where
    by_test : (x : Bool) → is_at_most p q ≡ x → x ≡ true
    by_test true e = refl
    by_test false e = absurd (omega (arith, ints, e, scaled p.0 q.1, scaled q.0 p.1, l))

most_used : (p q : Fraction) → is_at_most p q ≡ true → up p.0 * q.1 + down q.0 * p.1 ≤ up q.0 * p.1 + down p.0 * q.1
most_used p q e = omega (arith, ints, e, scaled p.0 q.1, scaled q.0 p.1)

less_moved : (a b d c e f k l m n o t : ℕ) → 0 < l * t → a * l + c * k ≡ d * k + b * l → e * t + n * m ≡ o * m + f * t → a * m + f * k < e * k + b * m → d * t + n * l < o * l + c * t
less_moved a b d c e f k l m n o t z h g x = by_order (cases_order (d * t + n * l) (o * l + c * t))
  where
    least : o * l + c * t ≤ d * t + n * l → ⊥
    least y =
        omega (
          arith,
          mul-le-mul_right (k * m) y,
          mul-lt-mul_of_pos_right x z,
          ap (λ w. w * (m * t)) h,
          ap (λ w. w * (k * l)) g,
        )

    by_order : (d * t + n * l ≡ o * l + c * t) ⊎ ((d * t + n * l < o * l + c * t) ⊎ (o * l + c * t < d * t + n * l)) → d * t + n * l < o * l + c * t
    by_order (inl q) = absurd (least (omega (arith, q)))
    by_order (inr (inl q)) = q
    by_order (inr (inr q)) = absurd (least (omega (arith, q)))

most_moved : (a b d c e f k l m n o t : ℕ) → 0 < k * m → a * l + c * k ≡ d * k + b * l → e * t + n * m ≡ o * m + f * t → a * m + f * k ≤ e * k + b * m → d * t + n * l ≤ o * l + c * t
most_moved a b d c e f k l m n o t z h g x = by_order (cases_order (d * t + n * l) (o * l + c * t))
  where
    least : o * l + c * t < d * t + n * l → ⊥
    least y =
        omega (
          arith,
          mul-lt-mul_of_pos_right y z,
          mul-le-mul_right (l * t) x,
          ap (λ w. w * (m * t)) h,
          ap (λ w. w * (k * l)) g,
        )

    by_order : (d * t + n * l ≡ o * l + c * t) ⊎ ((d * t + n * l < o * l + c * t) ⊎ (o * l + c * t < d * t + n * l)) → d * t + n * l ≤ o * l + c * t
    by_order (inl q) = omega (arith, q)
    by_order (inr (inl q)) = omega (arith, q)
    by_order (inr (inr q)) = absurd (least q)

below_moved : (a b c d : Fraction) → 0 < c.1 → 0 < d.1 → Same a c → Same b d → is_below a b ≡ true → is_below c d ≡ true
below_moved a b c d k l h g e =
    below_made c d (less_moved (up a.0) (down a.0) (up c.0) (down c.0) (up b.0) (down b.0) a.1 c.1 b.1 (down d.0) (up d.0) d.1 (mul-pos k l) h g (below_used a b e))

pub same_below : (a b c d : Fraction) → 0 < a.1 → 0 < b.1 → 0 < c.1 → 0 < d.1 → Same a c → Same b d → is_below a b ≡ is_below c d
same_below a b c d i j k l h g =
    bools_same (is_below a b) (is_below c d) (below_moved a b c d k l h g) (below_moved c d a b i j (same_sym a c h) (same_sym b d g))

at_most_moved : (a b c d : Fraction) → 0 < a.1 → 0 < b.1 → Same a c → Same b d → is_at_most a b ≡ true → is_at_most c d ≡ true
at_most_moved a b c d k l h g e =
    most_made c d (most_moved (up a.0) (down a.0) (up c.0) (down c.0) (up b.0) (down b.0) a.1 c.1 b.1 (down d.0) (up d.0) d.1 (mul-pos k l) h g (most_used a b e))

pub same_at_most : (a b c d : Fraction) → 0 < a.1 → 0 < b.1 → 0 < c.1 → 0 < d.1 → Same a c → Same b d → is_at_most a b ≡ is_at_most c d
same_at_most a b c d i j k l h g =
    bools_same (is_at_most a b) (is_at_most c d) (at_most_moved a b c d i j h g) (at_most_moved c d a b k l (same_sym a c h) (same_sym b d g))

same_moved : (a b c d : Fraction) → 0 < a.1 → 0 < b.1 → Same a c → Same b d → is_same a b ≡ true → is_same c d ≡ true
same_moved a b c d k l h g e = same_made c d (same_trans c a d k (same_sym a c h) (same_trans a b d l (same_used a b e) g))

pub same_same : (a b c d : Fraction) → 0 < a.1 → 0 < b.1 → 0 < c.1 → 0 < d.1 → Same a c → Same b d → is_same a b ≡ is_same c d
same_same a b c d i j k l h g =
    bools_same (is_same a b) (is_same c d) (same_moved a b c d i j h g) (same_moved c d a b k l (same_sym a c h) (same_sym b d g))

-- opposites, absolute values and quotients

turned : (z : ℤ) → (up (neg_ℤ z) ≡ down z) × (down (neg_ℤ z) ≡ up z)
turned (pos zero) = (refl, refl)
turned (pos (suc n)) = (refl, refl)
turned (negsuc n) = (refl, refl)

pub same_opposite : (a b : Fraction) → Same a b → Same (opposite a) (opposite b)
same_opposite a b h =
    let p = turned a.0 in
    let q = turned b.0 in
    omega (
      arith,
      ap (λ n. n * b.1) p.0,
      ap (λ n. n * b.1) p.1,
      ap (λ n. n * a.1) q.0,
      ap (λ n. n * a.1) q.1,
      h,
    )

pub same_absolute : (a b : Fraction) → 0 < a.1 → 0 < b.1 → Same a b → Same (absolute a) (absolute b)
same_absolute (pos m, k) (pos n, l) i j h = h
same_absolute (pos m, k) (negsuc n, l) i j h = absurd (omega (arith, h, i))
same_absolute (negsuc m, k) (pos n, l) i j h = absurd (omega (arith, h, j))
same_absolute (negsuc m, k) (negsuc n, l) i j h = omega (arith, h)

pub same_quotient : (a b c d : Fraction) → 0 < b.1 → 0 < d.1 → Same a c → Same b d → Same (quotient a b) (quotient c d)
same_quotient a (pos zero, k) c (pos zero, l) i j h g = refl
same_quotient a (pos zero, k) c (pos (suc n), l) i j h g = absurd (omega (arith, g, i))
same_quotient a (pos zero, k) c (negsuc n, l) i j h g = refl
same_quotient a (pos (suc m), k) c (pos zero, l) i j h g = absurd (omega (arith, g, j))
same_quotient a (pos (suc m), k) c (pos (suc n), l) i j h g = divided (up (a.0 *ℤ pos k)) (down (a.0 *ℤ pos k)) (up (c.0 *ℤ pos l)) (down (c.0 *ℤ pos l)) (up a.0) (down a.0) (up c.0) (down c.0) a.1 c.1 m n k l (scaled a.0 k) (scaled c.0 l) h g
  where
    divided : (p q r s a b c d e f m n k l : ℕ) → p + b * k ≡ q + a * k → r + d * l ≡ s + c * l → a * f + d * e ≡ c * e + b * f → suc m * l + 0 * k ≡ suc n * k + 0 * l →
        p * (f * suc n) + s * (e * suc m) ≡ r * (e * suc m) + q * (f * suc n)
    divided p q r s a b c d e f m n k l x y z w =
        omega (
          arith,
          ap (λ v. v * (f * suc n)) x,
          ap (λ v. v * (e * suc m)) y,
          ap (λ v. v * (k * suc n)) z,
          ap (λ v. v * (c * e)) w,
          ap (λ v. v * (d * e)) w,
        )
same_quotient a (pos (suc m), k) c (negsuc n, l) i j h g = absurd (omega (arith, g, j))
same_quotient a (negsuc m, k) c (pos zero, l) i j h g = refl
same_quotient a (negsuc m, k) c (pos (suc n), l) i j h g = absurd (omega (arith, g, i))
same_quotient a (negsuc m, k) c (negsuc n, l) i j h g = refl
