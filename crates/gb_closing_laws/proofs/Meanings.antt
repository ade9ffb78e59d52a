-- What arithmetic means: on whole numbers, and on fractions.
use Rattle.std.proofs.Common.{◌≡◌, ℕ, zero, suc, ◌+◌, ◌*◌, ◌<◌, ℤ, pos, negsuc, ◌+ℤ◌, ◌-ℤ◌, ◌*ℤ◌, refl, sym, ap, subst, arith}
use Rattle.std.specs.Prelude.{neg_ℤ}
use Rattle.std.proofs.Math.Nat.{mul-pos}
use Rattle.std.proofs.lemmas.Bool.{false≢true}
use Rattle.std.proofs.lemmas.Int.{ints}
use borrow.Author.Differences.{up, down}
use Rattle.gb_core.specs.declared.ty.Ty.{Ty}
use Rattle.gb_core.specs.declared.ty.Ty.TheVariants as ty
use Rattle.gb_dist.specs.Fractions.{Fraction}
use Rattle.gb_meaning.specs.Values.{Types}
use Rattle.gb_meaning.specs.Fractions as m
use Rattle.gb_meaning.specs.Setting.{Meaning}
use Rattle.gb_meaning.specs.Setting.Meaning.{finite, whole, fraction, weights}
use Rattle.gb_meaning.specs.Meanings.{fraction_in}
use Rattle.gb_meaning.specs.Operators.{sum_at, difference_at, product_at, negated}
use Rattle.gb_laws.specs.Operators.{IsSigned}
use Rattle.gb_laws.specs.Meant.{IsOf}
use Rattle.gb_closing_laws.proofs.Numbers.{Number, Same, unit, plus, times, opposite, same_refl, same_sym, same_trans, same_times}
use Rattle.gb_closing_laws.proofs.Fractions.{of, number, of_is, of_plus, of_minus, of_times}

-- a whole number of type `int`, a fraction with a denominator above 0 of type `real`
abbrev pub IsKind : Ty → Meaning → Type 0
IsKind ty.Int x = (n : ℤ) × (x ≡ whole n)
IsKind ty.Real x = (a : Fraction) × (x ≡ fraction a) × (0 < a.1)
IsKind _ x = ⊥

pub kind : (ts : Types) (u : Ty) (x : Meaning) → IsSigned u → IsOf ts u x → IsKind u x
kind ts ty.Int (finite v) w h = absurd (false≢true h)
kind ts ty.Int (whole n) w h = (n, refl)
kind ts ty.Int (fraction a) w h = absurd h.0
kind ts ty.Int (weights d) w h = absurd h.0
kind ts ty.Real (finite v) w h = absurd (false≢true h)
kind ts ty.Real (whole n) w h = absurd h
kind ts ty.Real (fraction a) w h = (a, refl, h.1)
kind ts ty.Real (weights d) w h = absurd h.0
kind ts _ x w h = absurd w

-- the number that a meaning is
abbrev pub num : Meaning → Number
num x = of (fraction_in x)

-- a statement on two meanings of one kind
pub by_kinds : (P : Meaning → Meaning → Type 0) → ((a b : ℤ) → P (whole a) (whole b)) → ((a b : Fraction) → 0 < a.1 → 0 < b.1 → P (fraction a) (fraction b)) →
    (u : Ty) (x y : Meaning) → IsKind u x → IsKind u y → P x y
by_kinds P f g ty.Int x y k l = subst (λ z. P z y) (sym k.1) (subst (P (whole k.0)) (sym l.1) (f k.0 l.0))
by_kinds P f g ty.Real x y k l = subst (λ z. P z y) (sym k.1) (subst (P (fraction k.0)) (sym l.1) (g k.0 l.0 k.2 l.2))
by_kinds P f g _ x y k l = absurd k

whole_sum : (a b : ℤ) → Same (of (a +ℤ b, 1)) (plus (of (a, 1)) (of (b, 1)))
whole_sum a b = omega (arith, ints)

whole_difference : (a b : ℤ) → Same (of (a -ℤ b, 1)) (plus (of (a, 1)) (opposite (of (b, 1))))
whole_difference a b = omega (arith, ints)

product : (x y : ℤ) → up (x *ℤ y) + (up x * down y + down x * up y) ≡ down (x *ℤ y) + (up x * up y + down x * down y)
product x y = omega (arith, ints)

whole_product : (a b : ℤ) → Same (of (a *ℤ b, 1)) (times (of (a, 1)) (of (b, 1)))
whole_product a b = omega (arith, product a b)

pub sum_is : (u t : Ty) (x y : Meaning) → IsKind u x → IsKind u y → Same (num (sum_at t x y)) (plus (num x) (num y))
sum_is u t x y k l = by_kinds (λ x y. Same (num (sum_at t x y)) (plus (num x) (num y))) whole_sum of_plus u x y k l

pub difference_is : (u t : Ty) (x y : Meaning) → IsKind u x → IsKind u y → Same (num (difference_at t x y)) (plus (num x) (opposite (num y)))
difference_is u t x y k l = by_kinds (λ x y. Same (num (difference_at t x y)) (plus (num x) (opposite (num y)))) whole_difference of_minus u x y k l

pub product_is : (u t : Ty) (x y : Meaning) → IsKind u x → IsKind u y → Same (num (product_at t x y)) (times (num x) (num y))
product_is u t x y k l = by_kinds (λ x y. Same (num (product_at t x y)) (times (num x) (num y))) whole_product of_times u x y k l

opposite_parts : (z : ℤ) → up (neg_ℤ z) + up z ≡ down (neg_ℤ z) + down z
opposite_parts z = omega (arith, ints)

whole_opposite : (a : ℤ) → Same (of (neg_ℤ a, 1)) (opposite (of (a, 1)))
whole_opposite a = omega (arith, opposite_parts a)

fraction_opposite : (a : Fraction) → 0 < a.1 → Same (of (m.opposite a)) (opposite (of a))
fraction_opposite (z, zero) h = absurd (omega arith)
fraction_opposite (z, suc d) h = omega (arith, ap (λ n. n * suc d) (opposite_parts z))

pub negated_is : (u : Ty) (x : Meaning) → IsKind u x → Same (num (negated x)) (opposite (num x))
negated_is u x k = by_kinds (λ x y. Same (num (negated x)) (opposite (num x))) (λ a b. whole_opposite a) (λ a b h l. fraction_opposite a h) u x x k k

-- the quotient by a number above 0 times this number
scaled : (z : ℤ) (d : ℕ) → up (z *ℤ pos d) + down z * d ≡ down (z *ℤ pos d) + up z * d
scaled z d = omega (arith, ints)

divided : (a : Fraction) (n d : ℕ) → 0 < a.1 → 0 < d → Same (times (of (m.quotient a (pos (suc n), d))) (of (pos (suc n), d))) (of a)
divided (z, zero) n d h k = absurd (omega arith)
divided (z, suc e) n zero h k = absurd (omega arith)
divided (z, suc e) n (suc d) h k =
    let above : 0 < suc e * suc n = mul-pos (omega arith) (omega arith) in
    let q = m.quotient (z, suc e) (pos (suc n), suc d) in
    same_trans (times (of q) (of (pos (suc n), suc d))) (times (number (z *ℤ pos (suc d)) (suc e * suc n) above) (of (pos (suc n), suc d))) (of (z, suc e))
    (same_times (of q) (number (z *ℤ pos (suc d)) (suc e * suc n) above) (of (pos (suc n), suc d)) (of (pos (suc n), suc d)) (of_is q above) (same_refl (of (pos (suc n), suc d))))
    (omega (arith, ap (λ w. w * (suc n * suc e)) (scaled z (suc d))))

-- where the divisor is a whole number above 0 and has an inverse, the quotient is the product with it
pub quotient_is : (a b : Fraction) (n : ℕ) (k : Number) → 0 < a.1 → 0 < b.1 → Same (of (pos (suc n), 1)) (of b) → Same (times k (of b)) unit → Same (of (m.quotient a b)) (times k (of a))
quotient_is a (pos (suc n), d) w k h l f e =
    let q = of (m.quotient a (pos (suc n), d)) in
    let b = of (pos (suc n), d) in
    same_sym (times k (of a)) q
    (same_trans (times k (of a)) (times k (times q b)) q
    (same_times k k (of a) (times q b) (same_refl k) (same_sym (times q b) (of a) (divided a n d h l)))
    (same_trans (times k (times q b)) (times (times k b) q) q
    (turned k q b)
    (same_trans (times (times k b) q) (times unit q) q (same_times (times k b) unit q q e (same_refl q)) (one_times q))))
  where
    turned : (k q b : Number) → Same (times k (times q b)) (times (times k b) q)
    turned k q b = omega arith

    one_times : (q : Number) → Same (times unit q) q
    one_times q = omega arith
quotient_is a (pos zero, zero) n k h l f e = absurd (omega arith)
quotient_is a (pos zero, suc d) n k h l f e = absurd (omega (arith, f))
quotient_is a (negsuc w, zero) n k h l f e = absurd (omega arith)
quotient_is a (negsuc w, suc d) n k h l f e = absurd (omega (arith, f))
