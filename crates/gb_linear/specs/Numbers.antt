-- Operations on exact fractions, each with its refusal.
use Rattle.std.specs.Prelude.{Bool, ◌&&◌, ◌==◌, int_lt, pos}
use Rattle.std.specs.Ordering.{int_eq}
use Rattle.gb_dist.specs.Fractions.{Fraction, times, over, of_whole, reduced}
use Rattle.gb_dist.specs.Operations.{outcome, times_steps, over_steps}
use Rattle.gb_goal.specs.Answers.{Answer}
use Rattle.gb_closing.specs.Numbers.{in_range}
use Rattle.gb_linear.specs.declared.numbers.Stands.{Stands}
use Rattle.gb_linear.specs.declared.numbers.Stands.TheVariants.{Left, Right}

abbrev pub product : Fraction → Fraction → Answer Fraction
product a b = in_range (outcome (times_steps a b) (reduced (times a b)))

-- a number times a factor that stands on its left or on its right
abbrev pub multiplied : Stands → Fraction → Fraction → Answer Fraction
multiplied Left k a = product k a
multiplied Right k a = product a k

abbrev pub one : Fraction
one = of_whole (pos 1)

abbrev pub is_zero : Fraction → Bool
is_zero a = int_eq a.0 (pos 0)

abbrev pub is_positive : Fraction → Bool
is_positive a = int_lt (pos 0) a.0

-- a whole number above 0
abbrev pub is_divisor : Fraction → Bool
is_divisor a = (a.1 == 1) && is_positive a

-- 1 over a whole number
abbrev pub inverse : Fraction → Answer Fraction
inverse a = in_range (outcome (over_steps one a.0) (reduced (over one a.0)))
