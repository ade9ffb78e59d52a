-- Numbers that are out of range.
use Rattle.std.specs.Prelude.{◌≡◌, ℕ, ◌+◌, ◌-◌, ◌*◌, ◌^◌, ◌<◌, ◌≤◌, ◌⊎◌, ℤ, pos, Bool, true, false, List, [], ◌∷◌, length, take, slice_index, if◌then◌else◌}
use Rattle.gb_script.specs.declared.terminal.Terminal.{Terminal}
use Rattle.gb_script.specs.declared.terminal.Terminal.TheVariants.{Number, Zero, One, Two}
use Rattle.gb_script.specs.declared.text.Text.{Text}
use Rattle.gb_script.specs.Text.{terminal_at, name_at}

-- the number that decimal digits spell behind those of a number so far
abbrev pub number_behind : ℕ → List ℕ → ℕ
number_behind n [] = n
number_behind n (d ∷ ds) = number_behind (n * 10 + (d - 48)) ds

-- the number that decimal digits spell
abbrev pub number_of : List ℕ → ℕ
number_of digits = number_behind 0 digits

-- One more digit behind a number leads out of range in an operation on these operands: the product by 10, or the sum.
abbrev pub LeadsOut : ℕ → ℕ → ℤ → ℤ → Type 0
LeadsOut n digit left right =
    ((2 ^ 127 ≤ n * 10) × (left ≡ pos n) × (right ≡ pos 10))
    ⊎ ((n * 10 < 2 ^ 127) × (2 ^ 127 ≤ n * 10 + digit) × (left ≡ pos (n * 10)) × (right ≡ pos digit))

-- Digits that are read one by one lead out of range, first in an operation on these operands.
pub record IsOverflow (digits : List ℕ) (left right : ℤ) : Type 0 where
  pub read : ℕ
  pub within : read < length digits
  pub before : number_of (take read digits) < 2 ^ 127
  pub here : LeadsOut (number_of (take read digits)) (slice_index digits read - 48) left right

abbrev pub is_number : Terminal → Bool
is_number Number = true
is_number Zero = true
is_number One = true
is_number Two = true
is_number _ = false

-- the digits of the number at a position; none where another token stands there
unfoldable pub digits_at : Text → ℕ → List ℕ
digits_at t i = if is_number (terminal_at t i) then name_at t i else []

-- the first number out of range, with the operands of the operation that leads out
pub record IsFirstOverflow (t : Text) (i : ℕ) (left right : ℤ) : Type 0 where
  pub within : i < length t.lexemes
  pub here : 2 ^ 127 ≤ number_of (digits_at t i)
  pub operands : IsOverflow (digits_at t i) left right
  pub first : (j : ℕ) → j < i → number_of (digits_at t j) < 2 ^ 127

abbrev pub NoneOverflow : Text → Type 0
NoneOverflow t = (j : ℕ) → j < length t.lexemes → number_of (digits_at t j) < 2 ^ 127
