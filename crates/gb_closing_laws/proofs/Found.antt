-- The numbers that operations give.
use Rattle.std.proofs.Common.{◌≡◌, ℕ, zero, suc, ◌*◌, ◌<◌, ◌==◌, true, false, pos, negsuc, List, Option, Some, None, refl, ap, subst, arith}
use Rattle.std.proofs.lemmas.Bool.{false≢true, and_parts, eqb-true}
use Rattle.gb_dist.specs.declared.whole.Overflow.{Overflow}
use Rattle.gb_dist.specs.Fractions as fractions
use Rattle.gb_dist.specs.Fractions.{Fraction, reduced}
use Rattle.gb_dist.specs.Operations.{Operation, first_overflow, unless, outcome, plus_steps, minus_steps, times_steps, over_steps}
use Rattle.gb_dist.proofs.Lowest.{IsSame-reduced, IsLowest-reduced}
use Rattle.gb_goal.specs.Answers.{Answer, ◌>>=◌}
use Rattle.gb_goal.specs.Answers.Answer.{given, refused}
use Rattle.gb_closing.specs.declared.numbers.Sign.{Sign}
use Rattle.gb_closing.specs.declared.numbers.Sign.TheVariants.{Plus, Minus}
use Rattle.gb_linear.specs.declared.numbers.Stands.{Stands}
use Rattle.gb_linear.specs.declared.numbers.Stands.TheVariants.{Left, Right}
use Rattle.gb_closing.specs.Numbers.{in_range, operated}
use Rattle.gb_linear.specs.Numbers.{product, multiplied, one, is_divisor, is_positive, inverse}
use Rattle.gb_closing_laws.proofs.Numbers.{Number, Same, unit, plus, times, opposite, signed, same_trans, same_times, same_refl, times_comm}
use Rattle.gb_closing_laws.proofs.Fractions.{of, number, of_is, of_same, of_plus, of_minus, of_times, above_both}

-- What is given.

abbrev given_or : {A : Type 0} → A → Answer A → A
given_or d (given x) = x
given_or d (refused w p) = d

pub given_is : {A : Type 0} (x y : A) → given x ≡ given y → x ≡ y
given_is x y e = ap (given_or x) e

pub given_bind : {A B : Type 0} (a : Answer A) (f : A → Answer B) (y : B) → (a >>= f) ≡ given y → (x : A) × (a ≡ given x) × (f x ≡ given y)
given_bind (given x) f y e = (x, refl, e)
given_bind (refused w p) f y e = cc

-- a number with a denominator above 0, which is this one
abbrev pub Is : Fraction → Number → Type 0
Is c x = (0 < c.1) × Same (of c) x

found : (os : List Operation) (f c : Fraction) → 0 < f.1 → in_range (outcome os (reduced f)) ≡ given c → Is c (of f)
found os f c h e = step (first_overflow os) e
  where
    step : (x : Option Overflow) → in_range (unless x (reduced f)) ≡ given c → Is c (of f)
    step None k =
        subst (λ z. Is z (of f)) (given_is (reduced f) c k)
        ((IsLowest-reduced f h).above, of_same (reduced f) f (IsLowest-reduced f h).above h (IsSame-reduced f h))
    step (Some o) k = cc

then : (c : Fraction) (x y : Number) → Is c x → Same x y → Is c y
then c x y h k = (h.0, same_trans (of c) x y h.1 k)

pub operated_is : (s : Sign) (a b c : Fraction) → 0 < a.1 → 0 < b.1 → operated s a b ≡ given c → Is c (plus (of a) (signed s (of b)))
operated_is Plus a b c h k e = then c (of (fractions.plus a b)) (plus (of a) (of b)) (found (plus_steps a b) (fractions.plus a b) c (above_both a b h k) e) (of_plus a b h k)
operated_is Minus a b c h k e =
    then c (of (fractions.minus a b)) (plus (of a) (opposite (of b))) (found (minus_steps a b) (fractions.minus a b) c (above_both a b h k) e) (of_minus a b h k)

product_is : (a b c : Fraction) → 0 < a.1 → 0 < b.1 → product a b ≡ given c → Is c (times (of a) (of b))
product_is a b c h k e = then c (of (fractions.times a b)) (times (of a) (of b)) (found (times_steps a b) (fractions.times a b) c (above_both a b h k) e) (of_times a b h k)

pub multiplied_is : (on : Stands) (k a c : Fraction) → 0 < k.1 → 0 < a.1 → multiplied on k a ≡ given c → Is c (times (of k) (of a))
multiplied_is Left k a c h l e = product_is k a c h l e
multiplied_is Right k a c h l e = then c (times (of a) (of k)) (times (of k) (of a)) (product_is a k c l h e) (times_comm (of a) (of k))

-- a divisor is a whole number above 0
pub divisor_is : (a : Fraction) → is_divisor a ≡ true → (n : ℕ) × (a ≡ (pos (suc n), 1))
divisor_is (pos (suc n), d) e = (n, ap (λ k. (pos (suc n), k)) (eqb-true d 1 (and_parts (d == 1) (is_positive (pos (suc n), d)) e).0))
divisor_is (pos zero, d) e = absurd (false≢true (and_parts (d == 1) false e).1)
divisor_is (negsuc n, d) e = absurd (false≢true (and_parts (d == 1) false e).1)

-- a whole number above 0 times its inverse
pub inverse_is : (n : ℕ) (k : Fraction) → inverse (pos (suc n), 1) ≡ given k → (0 < k.1) × Same (times (of k) (of (pos (suc n), 1))) unit
inverse_is n k e =
    let f = found (over_steps one (pos (suc n))) (pos 1, 1 * suc n) k (omega arith) e in (
      f.0,
      same_trans (times (of k) (of (pos (suc n), 1))) (times (of (pos 1, 1 * suc n)) (of (pos (suc n), 1))) unit
          (same_times (of k) (of (pos 1, 1 * suc n)) (of (pos (suc n), 1)) (of (pos (suc n), 1)) f.1 (same_refl (of (pos (suc n), 1))))
          (same_trans (times (of (pos 1, 1 * suc n)) (of (pos (suc n), 1))) (times (number (pos 1) (1 * suc n) above) (of (pos (suc n), 1))) unit
          (same_times (of (pos 1, 1 * suc n)) (number (pos 1) (1 * suc n) above) (of (pos (suc n), 1)) (of (pos (suc n), 1)) (of_is (pos 1, 1 * suc n) above) (same_refl (of (pos (suc n), 1))))
          (unit_of n)),
    )
  where
    above : 0 < 1 * suc n
    above = omega arith

    unit_of : (n : ℕ) → Same (times (number (pos 1) (1 * suc n) (omega arith)) (of (pos (suc n), 1))) unit
    unit_of n = omega arith
