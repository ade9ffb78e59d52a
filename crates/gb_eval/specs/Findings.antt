-- What evaluation finds.
use Rattle.std.specs.Prelude.{◌≡◌, ℕ, zero, suc, ◌==◌, Bool, true, false, if◌then◌else◌, ℤ, Option, Some, None, Result, Ok, Err, List, [], ◌∷◌, ◌++◌}
use Rattle.gb_core.specs.declared.refusal.Refused.{Refused}
use Rattle.gb_core.specs.declared.refusal.Refused.TheVariants as refused
use Rattle.gb_core.specs.declared.refusal.Why.TheVariants as why
use Rattle.gb_core.specs.declared.value.Value.{Value}
use Rattle.gb_core.specs.declared.value.Value.TheVariants.{Num, Many'}
use Rattle.gb_dist.specs.WeightedList.{WeightedList}
use Rattle.gb_dist.specs.declared.whole.Overflow.{Overflow}
use Rattle.gb_dist.specs.Fractions.{Fraction}
use Rattle.gb_dist.specs.Operations.{Operation, first_overflow}
use Rattle.gb_meaning.specs.Names.{Name}
use Rattle.gb_dist.specs.declared.table.Table.{Table}
use Rattle.gb_dist.specs.Rows.{entries}
use Rattle.gb_eval.specs.declared.answer.Answer.{Answer}
use Rattle.gb_eval.specs.declared.answer.Answer.TheVariants as answer
use Rattle.gb_eval.specs.declared.answer.Stop.{Stop}
use Rattle.gb_eval.specs.declared.answer.Stop.TheVariants as stop
use Rattle.gb_eval.specs.declared.env.Bound.{Bound}
use Rattle.gb_eval.specs.declared.env.Bound.TheVariants as to

-- What is found of a term: a value of a finite type, a whole number, a fraction in lowest terms, or a distribution by its
-- denominator and its weights.
pub data Finding : Type 0 where
  value : Value → Finding
  whole : ℤ → Finding
  fraction : Fraction → Finding
  table : ℕ → WeightedList Value → Finding

-- Evaluation finds something, or it stops: at a part that is opaque to it, or at an operation on whole numbers with these
-- operands, whose result is out of range.
pub data Comes (A : Type 0) : Type 0 where
  found : A → Comes A
  unknown : Comes A
  overflow : Overflow → Comes A

infixl 10 ◌>>=◌
-- what follows from what is found; a stop stands
abbrev pub ◌>>=◌ : {A B : Type 0} → Comes A → (A → Comes B) → Comes B
(found x) >>= f = f x
unknown >>= f = unknown
(overflow o) >>= f = overflow o

abbrev pub unless : {A : Type 0} → Option Overflow → A → Comes A
unless None x = found x
unless (Some o) x = overflow o

-- what is found by these operations, unless the result of one of them is out of range
abbrev pub after : {A : Type 0} → List Operation → A → Comes A
after os x = unless (first_overflow os) x

-- these one after another, behind what is there
abbrev pub collected : {A : Type 0} → List A → List (Comes A) → Comes (List A)
collected out [] = found out
collected out (x ∷ xs) = x >>= λ a. collected (out ++ a ∷ []) xs

-- a number, turn by turn, from the places below n in order
abbrev pub over : {A : Type 0} → (A → ℕ → Comes A) → A → ℕ → Comes A
over step a zero = found a
over step a (suc n) = over step a n >>= λ b. step b n

-- Truth values are numbers: 1 for true, 0 for false.

abbrev pub of_number : ℕ → Finding
of_number n = value (Num n)

abbrev pub of_truth : Bool → Finding
of_truth true = of_number 1
of_truth false = of_number 0

abbrev pub truth_of_number : ℕ → Comes Bool
truth_of_number n = if n == 0 then found false else if n == 1 then found true else unknown

abbrev pub number_of_value : Value → Comes ℕ
number_of_value (Num n) = found n
number_of_value (Many' n r) = unknown

abbrev pub number_in : Finding → Comes ℕ
number_in (value v) = number_of_value v
number_in _ = unknown

abbrev pub truth_in : Finding → Comes Bool
truth_in x = number_in x >>= truth_of_number

abbrev pub value_in : Finding → Comes Value
value_in (value v) = found v
value_in _ = unknown

abbrev pub fraction_in : Finding → Comes Fraction
fraction_in (fraction a) = found a
fraction_in _ = unknown

abbrev pub table_in : Finding → Comes (ℕ × WeightedList Value)
table_in (table n l) = found (n, l)
table_in _ = unknown

-- what a variable stands for; a memory is nothing that is found
abbrev pub finding_of : Bound → Comes Finding
finding_of (to.Value v) = found (value v)
finding_of (to.Whole n) = found (whole n)
finding_of (to.Fraction a) = found (fraction a)
finding_of (to.Memory hs) = unknown

-- what a parameter stands for where the argument is this finding; it is no distribution
abbrev pub argument_of : Finding → Comes Bound
argument_of (value v) = found (to.Value v)
argument_of (whole n) = found (to.Whole n)
argument_of (fraction a) = found (to.Fraction a)
argument_of (table n l) = unknown

-- An operator of a script: what it comes to at its arguments, in order, and the denominator of what it gives.
pub record Function : Type 0 where
  pub comes : List Bound → Comes Finding
  pub total : Comes ℕ

-- the operators of a script, by name
abbrev pub Operators : Type 0
Operators = Name → Function

abbrev pub no_operator : Function
no_operator = record { comes = λ vs. unknown; total = unknown }

-- what is made of the table that is found
abbrev pub with_table : {A : Type 0} → Finding → (ℕ → WeightedList Value → Comes A) → Comes A
with_table x f = table_in x >>= λ d. f d.0 d.1

-- The answers of the code.

abbrev pub shown : Answer → Finding
shown (answer.Value v) = value v
shown (answer.Whole n) = whole n
shown (answer.Fraction a) = fraction a
shown (answer.Table t) = table t.total (entries t.rows)

-- why evaluation stops where a call on tables refuses
abbrev pub stop_of : Refused → Stop
stop_of refused.NoMemory = stop.NoMemory
stop_of refused.ReadFault = stop.Unknown
stop_of (refused.Script (why.Overflow l r) place) = stop.Overflow (record { left = l; right = r })
stop_of (refused.Script _ place) = stop.Unknown

abbrev pub shown_table : Table → ℕ × WeightedList Value
shown_table t = (t.total, entries t.rows)

-- the code stops as it should, or for want of memory
abbrev pub Stops : {A : Type 0} → Comes A → Stop → Type 0
Stops c stop.NoMemory = Unit {0}
Stops c stop.Unknown = c ≡ unknown
Stops c (stop.Overflow o) = c ≡ overflow o

-- what the code returns, seen by a view, is this, unless memory ran out
abbrev pub Gives : {A B : Type 0} → (A → B) → Comes B → Result A Stop → Type 0
Gives view c (Ok x) = c ≡ found (view x)
Gives view c (Err e) = Stops c e

abbrev pub Finds : {A : Type 0} → Comes A → Result A Stop → Type 0
Finds c r = Gives (λ x. x) c r
