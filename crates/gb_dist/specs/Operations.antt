-- Operations on whole numbers, whose results have to be below 2^127 in size.
use Rattle.std.specs.Prelude.{◌≡◌, ◌^◌, Bool, true, false, nat_lt, if◌then◌else◌, ℤ, pos, ◌+ℤ◌, ◌-ℤ◌, ◌*ℤ◌, unsigned_abs, List, [], ◌∷◌}
use Rattle.std.specs.Prelude.{Option, None, Some, Result, Ok, Err}
use Rattle.gb_dist.specs.declared.whole.Overflow.{Overflow}
use Rattle.gb_dist.specs.Fractions.{Fraction, crossed}

-- a whole number is below 2^127 in size
unfoldable pub is_small : ℤ → Bool
is_small z = nat_lt (unsigned_abs z) (2 ^ 127)

-- a number that is there and small, or else these operands
abbrev pub small_or : Overflow → Option ℤ → Result ℤ Overflow
small_or o None = Err o
small_or o (Some z) = if is_small z then Ok z else Err o

-- an operation: its operands, and its result
pub record Operation : Type 0 where
  pub left : ℤ
  pub right : ℤ
  pub result : ℤ

abbrev pub product_of : ℤ → ℤ → Operation
product_of x y = record { left = x; right = y; result = x *ℤ y }

abbrev pub sum_of : ℤ → ℤ → Operation
sum_of x y = record { left = x; right = y; result = x +ℤ y }

abbrev pub difference_of : ℤ → ℤ → Operation
difference_of x y = record { left = x; right = y; result = x -ℤ y }

abbrev pub operands : Operation → Overflow
operands o = record { left = o.left; right = o.right }

-- what an operation gives: its result where it is small, else its operands
abbrev pub Gives : Operation → Result ℤ Overflow → Type 0
Gives o (Ok n) = (is_small o.result ≡ true) × (n ≡ o.result)
Gives o (Err e) = (is_small o.result ≡ false) × (e ≡ operands o)

-- the operands of the first operation whose result is too large
abbrev pub first_overflow : List Operation → Option Overflow
first_overflow [] = None
first_overflow (o ∷ os) = if is_small o.result then first_overflow os else Some (operands o)

abbrev pub unless : {A : Type 0} → Option Overflow → A → Result A Overflow
unless None a = Ok a
unless (Some o) a = Err o

-- what a computation by these operations gives: the first overflow, or else this answer
abbrev pub outcome : {A : Type 0} → List Operation → A → Result A Overflow
outcome os a = unless (first_overflow os) a

-- the cross products of two fractions
abbrev pub crossings : Fraction → Fraction → List Operation
crossings a b = product_of a.0 (pos b.1) ∷ product_of b.0 (pos a.1) ∷ []

-- a sum by cross products: these, their sum, then the product of the denominators
abbrev pub plus_steps : Fraction → Fraction → List Operation
plus_steps a b = product_of a.0 (pos b.1) ∷ product_of b.0 (pos a.1) ∷ sum_of (crossed a b) (crossed b a) ∷ product_of (pos a.1) (pos b.1) ∷ []

abbrev pub minus_steps : Fraction → Fraction → List Operation
minus_steps a b = product_of a.0 (pos b.1) ∷ product_of b.0 (pos a.1) ∷ difference_of (crossed a b) (crossed b a) ∷ product_of (pos a.1) (pos b.1) ∷ []

-- a product: that of the numerators, then that of the denominators
abbrev pub times_steps : Fraction → Fraction → List Operation
times_steps a b = product_of a.0 b.0 ∷ product_of (pos a.1) (pos b.1) ∷ []

-- a quotient by a whole number
abbrev pub over_steps : Fraction → ℤ → List Operation
over_steps a n = product_of (pos a.1) n ∷ []
