-- Fractions: a numerator, and a denominator above 0. They are compared and combined by cross products, and never
-- reduced.
use Rattle.std.specs.Prelude.{ℕ, suc, ◌*◌, Bool, ℤ, pos, ◌+ℤ◌, ◌-ℤ◌, ◌*ℤ◌, neg_ℤ, nat_abs, int_lt, int_le}
use Rattle.std.specs.Ordering.{int_eq}

abbrev pub Fraction : Type 0
Fraction = ℤ × ℕ

-- the numerator of a fraction, over the product of its denominator and another one's
abbrev pub crossed : Fraction → Fraction → ℤ
crossed a b = a.0 *ℤ pos b.1

abbrev pub is_at_most : Fraction → Fraction → Bool
is_at_most a b = int_le (crossed a b) (crossed b a)

abbrev pub is_below : Fraction → Fraction → Bool
is_below a b = int_lt (crossed a b) (crossed b a)

abbrev pub is_same : Fraction → Fraction → Bool
is_same a b = int_eq (crossed a b) (crossed b a)

abbrev pub plus : Fraction → Fraction → Fraction
plus a b = (crossed a b +ℤ crossed b a, a.1 * b.1)

abbrev pub minus : Fraction → Fraction → Fraction
minus a b = (crossed a b -ℤ crossed b a, a.1 * b.1)

abbrev pub times : Fraction → Fraction → Fraction
times a b = (a.0 *ℤ b.0, a.1 * b.1)

abbrev pub opposite : Fraction → Fraction
opposite a = (neg_ℤ a.0, a.1)

abbrev pub absolute : Fraction → Fraction
absolute a = (pos (nat_abs a.0), a.1)

-- the quotient by a fraction above 0; by any other one it is 0
abbrev pub quotient : Fraction → Fraction → Fraction
quotient a (pos (suc n), d) = (a.0 *ℤ pos d, a.1 * suc n)
quotient a b = (pos 0, 1)

abbrev pub of_whole : ℤ → Fraction
of_whole n = (n, 1)
