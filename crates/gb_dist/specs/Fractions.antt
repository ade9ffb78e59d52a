-- Fractions: a numerator, and a denominator above 0. They are compared and combined by cross products.
use Rattle.std.specs.Prelude.{◌≡◌, ℕ, zero, suc, ◌*◌, ◌/◌, ◌%◌, ◌^◌, ◌<◌, ℤ, pos, ◌+ℤ◌, ◌-ℤ◌, ◌*ℤ◌, unsigned_abs, int_div}
use Rattle.std.specs.Ordering.{int_cmp}
use Rattle.std.specs.declared.cmp.Ordering.{Ordering}
use Rattle.std.specs.Int.{IsGcd}

abbrev pub Fraction : Type 0
Fraction = ℤ × ℕ

-- the numerator of a fraction, over the product of its denominator and another one's
abbrev pub crossed : Fraction → Fraction → ℤ
crossed a b = a.0 *ℤ pos b.1

-- two fractions are the same: their cross products are equal
abbrev pub IsSame : Fraction → Fraction → Type 0
IsSame a b = crossed a b ≡ crossed b a

-- how two fractions compare
abbrev pub order : Fraction → Fraction → Ordering
order a b = int_cmp (crossed a b) (crossed b a)

abbrev pub plus : Fraction → Fraction → Fraction
plus a b = (crossed a b +ℤ crossed b a, a.1 * b.1)

abbrev pub minus : Fraction → Fraction → Fraction
minus a b = (crossed a b -ℤ crossed b a, a.1 * b.1)

abbrev pub times : Fraction → Fraction → Fraction
times a b = (a.0 *ℤ b.0, a.1 * b.1)

-- the quotient by a whole number above 0
abbrev pub over : Fraction → ℤ → Fraction
over a n = (a.0, a.1 * unsigned_abs n)

abbrev pub absolute : Fraction → Fraction
absolute a = (pos (unsigned_abs a.0), a.1)

abbrev pub of_whole : ℤ → Fraction
of_whole n = (n, 1)

-- Euclid's algorithm, in at most so many steps
unfoldable pub euclid : ℕ → ℕ → ℕ → ℕ
euclid zero a b = a
euclid (suc n) a zero = a
euclid (suc n) a (suc b) = euclid n (suc b) (a % suc b)

-- the greatest common divisor
unfoldable pub gcd : ℕ → ℕ → ℕ
gcd a b = euclid b a b

-- a fraction with both its parts divided by their greatest common divisor
unfoldable pub reduced : Fraction → Fraction
reduced a = (int_div a.0 (pos (gcd (unsigned_abs a.0) a.1)), a.1 / gcd (unsigned_abs a.0) a.1)

-- in lowest terms: no number but 1 divides both parts, and the denominator is above 0
pub record IsLowest (a : Fraction) : Type 0 where
  pub above : 0 < a.1
  pub coprime : IsGcd (unsigned_abs a.0) a.1 1

-- in lowest terms, both parts below 2^127 in size
pub record IsBounded (a : Fraction) : Type 0 where
  pub lowest : IsLowest a
  pub num : unsigned_abs a.0 < 2 ^ 127
  pub den : a.1 < 2 ^ 127
