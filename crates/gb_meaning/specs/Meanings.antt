-- What a term means, and the parts of it that an operator looks at.
use Rattle.std.specs.Prelude.{ℕ, ◌==◌, Bool, false, ℤ, pos, []}
use Rattle.std.specs.Ordering.{int_eq}
use Rattle.gb_core.specs.declared.value.Value.{Value}
use Rattle.gb_core.specs.declared.value.Value.TheVariants.{Num}
use Rattle.gb_core.specs.Numbering.{number_of}
use Rattle.gb_dist.specs.WeightedList.{WeightedList, scale, bit}
use Rattle.gb_meaning.specs.Fractions.{Fraction, is_same, of_whole}
use Rattle.gb_meaning.specs.Setting.{Meaning}
use Rattle.gb_meaning.specs.Setting.Meaning.{finite, whole, fraction, weights}
use Rattle.gb_meaning.specs.Values.{value_eq}

-- where a name names nothing, and where an operator has arguments of another kind
abbrev pub nothing : Meaning
nothing = finite (Num 0)

abbrev pub of_truth : Bool → Meaning
of_truth b = finite (Num (bit b))

abbrev pub of_number : ℕ → Meaning
of_number n = finite (Num n)

abbrev pub value_in : Meaning → Value
value_in (finite v) = v
value_in _ = Num 0

abbrev pub number_in : Meaning → ℕ
number_in x = number_of (value_in x)

-- whether the term is true
abbrev pub truth : Meaning → Bool
truth x = number_in x == 1

abbrev pub whole_in : Meaning → ℤ
whole_in (whole n) = n
whole_in x = pos (number_in x)

abbrev pub fraction_in : Meaning → Fraction
fraction_in (fraction a) = a
fraction_in x = of_whole (whole_in x)

abbrev pub weights_in : Meaning → WeightedList Value
weights_in (weights d) = d
weights_in _ = []

-- a distribution's weights times a number; anything else as it is
abbrev pub scaled : ℕ → Meaning → Meaning
scaled k (weights d) = weights (scale k d)
scaled k x = x

-- whether two terms of one type mean the same: values, whole numbers, or fractions by cross products
abbrev pub same : Meaning → Meaning → Bool
same (finite v) (finite w) = value_eq v w
same (whole m) (whole n) = int_eq m n
same (fraction a) (fraction b) = is_same a b
same _ _ = false
