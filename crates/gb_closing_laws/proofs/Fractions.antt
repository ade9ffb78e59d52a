-- Fractions as such numbers.
use Rattle.std.proofs.Common.{◌≡◌, ℕ, zero, suc, ◌+◌, ◌*◌, ◌<◌, ℤ, pos, ◌+ℤ◌, ◌-ℤ◌, ◌*ℤ◌, refl, ap, arith}
use Rattle.std.proofs.Math.Nat.{mul-pos}
use Rattle.std.proofs.lemmas.Int.{ints}
use borrow.Author.Differences.{up, down}
use Rattle.gb_dist.specs.Fractions as fractions
use Rattle.gb_dist.specs.Fractions.{Fraction, IsSame}
use Rattle.gb_closing_laws.proofs.Numbers.{Number, Same, nought, plus, times, opposite, same_sym, same_trans, same_plus, same_times, same_opposite}

-- a fraction as a number; one without a denominator counts as 0
abbrev pub of : Fraction → Number
of (z, zero) = nought
of (z, suc d) = record { more = up z; less = down z; den = suc d; above = omega arith }

abbrev pub number : (z : ℤ) (d : ℕ) → 0 < d → Number
number z d h = record { more = up z; less = down z; den = d; above = h }

pub of_is : (a : Fraction) (h : 0 < a.1) → Same (of a) (number a.0 a.1 h)
of_is (z, zero) h = absurd (omega arith)
of_is (z, suc d) h = refl

pub of_same : (a b : Fraction) → 0 < a.1 → 0 < b.1 → IsSame a b → Same (of a) (of b)
of_same (x, zero) b h k e = absurd (omega arith)
of_same (x, suc d) (y, zero) h k e = absurd (omega arith)
of_same (x, suc d) (y, suc f) h k e = omega (arith, ints, e)

sum : (x y : ℤ) (m n : ℕ) → up (x *ℤ pos m +ℤ y *ℤ pos n) + (down x * m + down y * n) ≡ down (x *ℤ pos m +ℤ y *ℤ pos n) + (up x * m + up y * n)
sum x y m n = omega (arith, ints)

difference : (x y : ℤ) (m n : ℕ) → up (x *ℤ pos m -ℤ y *ℤ pos n) + (down x * m + up y * n) ≡ down (x *ℤ pos m -ℤ y *ℤ pos n) + (up x * m + down y * n)
difference x y m n = omega (arith, ints)

product : (x y : ℤ) → up (x *ℤ y) + (up x * down y + down x * up y) ≡ down (x *ℤ y) + (up x * up y + down x * down y)
product x y = omega (arith, ints)

module _ (a b : Fraction) (h : 0 < a.1) (k : 0 < b.1) where
  pub above_both : 0 < a.1 * b.1
  above_both = mul-pos h k

  abbrev x : Number
  x = number a.0 a.1 h

  abbrev y : Number
  y = number b.0 b.1 k

  number_plus : Same (number (fractions.plus a b).0 (a.1 * b.1) above_both) (plus x y)
  number_plus = omega (arith, ap (λ n. n * (a.1 * b.1)) (sum a.0 b.0 b.1 a.1))

  number_minus : Same (number (fractions.minus a b).0 (a.1 * b.1) above_both) (plus x (opposite y))
  number_minus = omega (arith, ap (λ n. n * (a.1 * b.1)) (difference a.0 b.0 b.1 a.1))

  number_times : Same (number (fractions.times a b).0 (a.1 * b.1) above_both) (times x y)
  number_times = omega (arith, ap (λ n. n * (a.1 * b.1)) (product a.0 b.0))

  pub of_plus : Same (of (fractions.plus a b)) (plus (of a) (of b))
  of_plus =
      same_trans (of (fractions.plus a b)) (number (fractions.plus a b).0 (a.1 * b.1) above_both) (plus (of a) (of b)) (of_is (fractions.plus a b) above_both)
      (same_trans (number (fractions.plus a b).0 (a.1 * b.1) above_both) (plus x y) (plus (of a) (of b)) number_plus
      (same_plus x (of a) y (of b) (same_sym (of a) x (of_is a h)) (same_sym (of b) y (of_is b k))))

  pub of_minus : Same (of (fractions.minus a b)) (plus (of a) (opposite (of b)))
  of_minus =
      same_trans (of (fractions.minus a b)) (number (fractions.minus a b).0 (a.1 * b.1) above_both) (plus (of a) (opposite (of b))) (of_is (fractions.minus a b) above_both)
      (same_trans (number (fractions.minus a b).0 (a.1 * b.1) above_both) (plus x (opposite y)) (plus (of a) (opposite (of b))) number_minus
      (same_plus x (of a) (opposite y) (opposite (of b)) (same_sym (of a) x (of_is a h)) (same_opposite y (of b) (same_sym (of b) y (of_is b k)))))

  pub of_times : Same (of (fractions.times a b)) (times (of a) (of b))
  of_times =
      same_trans (of (fractions.times a b)) (number (fractions.times a b).0 (a.1 * b.1) above_both) (times (of a) (of b)) (of_is (fractions.times a b) above_both)
      (same_trans (number (fractions.times a b).0 (a.1 * b.1) above_both) (times x y) (times (of a) (of b)) number_times
      (same_times x (of a) y (of b) (same_sym (of a) x (of_is a h)) (same_sym (of b) y (of_is b k))))
