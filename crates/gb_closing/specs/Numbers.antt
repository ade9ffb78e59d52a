-- Operations on exact fractions, each with its refusal, and which multipliers may stand.
use Rattle.std.specs.Prelude.{Bool, false, not, ◌&&◌, ◌||◌, int_lt, pos, Option, Some, None, Result, Ok, Err}
use Rattle.gb_core.specs.declared.refusal.Why.TheVariants as why
use Rattle.gb_dist.specs.declared.whole.Overflow.{Overflow}
use Rattle.gb_dist.specs.Fractions.{Fraction, plus, minus, of_whole, reduced}
use Rattle.gb_dist.specs.Operations.{outcome, plus_steps, minus_steps}
use Rattle.gb_goal.specs.Answers.{Answer, nowhere}
use Rattle.gb_goal.specs.Answers.Answer.{given, refused}
use Rattle.gb_closing.specs.declared.numbers.Sign.{Sign}
use Rattle.gb_closing.specs.declared.numbers.Sign.TheVariants.{Plus, Minus}

-- a number, or the operands of the operation that is out of range
abbrev pub in_range : Result Fraction Overflow → Answer Fraction
in_range (Ok a) = given a
in_range (Err o) = refused (why.Overflow o.left o.right) nowhere

-- a sum or a difference
abbrev pub operated : Sign → Fraction → Fraction → Answer Fraction
operated Plus a b = in_range (outcome (plus_steps a b) (reduced (plus a b)))
operated Minus a b = in_range (outcome (minus_steps a b) (reduced (minus a b)))

abbrev pub zero : Fraction
zero = of_whole (pos 0)

abbrev pub is_negative : Fraction → Bool
is_negative a = int_lt a.0 (pos 0)

-- the denominator is above 0
abbrev pub is_proper : Fraction → Bool
is_proper a = int_lt (pos 0) (pos a.1)

-- a number with a denominator above 0, and where the hypothesis isn't an equation none below 0
abbrev pub may_have : Bool → Option Fraction → Bool
may_have equal None = false
may_have equal (Some k) = is_proper k && (equal || not (is_negative k))
