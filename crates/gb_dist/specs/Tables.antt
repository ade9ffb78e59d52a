-- What calls on tables give.
use Rattle.std.specs.Prelude.{◌≡◌, ℕ, true, false, Option, Some, None, Result, Ok, Err, List}
use Rattle.gb_core.specs.declared.place.Place.{Place}
use Rattle.gb_core.specs.declared.refusal.Refused.{Refused}
use Rattle.gb_core.specs.declared.refusal.Refused.TheVariants.{NoMemory, ReadFault, Script}
use Rattle.gb_core.specs.declared.refusal.Why.TheVariants as why
use Rattle.gb_core.specs.declared.value.Value.{Value}
use Rattle.gb_dist.specs.WeightedList.{WeightedList}
use Rattle.gb_dist.specs.declared.whole.Overflow.{Overflow}
use Rattle.gb_dist.specs.Operations.{Operation, first_overflow, is_small, operands}
use Rattle.gb_dist.specs.declared.table.Table.{Table}
use Rattle.gb_dist.specs.declared.row.Row.{Row}
use Rattle.gb_dist.specs.Rows.{entries}

-- The place of a refusal for which its caller has one. Lines count from 1.
abbrev pub nowhere : Place
nowhere = record { file = 0; line = 0; col = 0 }

abbrev pub refusal_of : Overflow → Refused
refusal_of o = Script (why.Overflow o.left o.right) nowhere

-- a refusal is want of memory, or that of the first overflow
abbrev pub IsRefusal : Option Overflow → Refused → Type 0
IsRefusal x NoMemory = Unit {0}
IsRefusal x ReadFault = ⊥
IsRefusal x (Script w p) = (o : Overflow) × (x ≡ Some o) × (Script w p ≡ refusal_of o)

-- what a whole-number operation gives: the number n where its result is small, else its refusal
abbrev pub GivesNumber : Operation → ℕ → Result ℕ Refused → Type 0
GivesNumber o n (Ok k) = (is_small o.result ≡ true) × (k ≡ n)
GivesNumber o n (Err e) = (is_small o.result ≡ false) × (e ≡ refusal_of (operands o))

-- What a call gives that computes by these operations: this list over this denominator, or its refusal.
abbrev pub Gives : List Operation → ℕ → WeightedList Value → Result Table Refused → Type 0
Gives os n l (Ok t) = (first_overflow os ≡ None) × (t.total ≡ n) × (entries t.rows ≡ l)
Gives os n l (Err e) = IsRefusal (first_overflow os) e

-- What a call gives that computes rows by these operations: this list, or its refusal.
abbrev pub GivesRows : List Operation → WeightedList Value → Result (List Row) Refused → Type 0
GivesRows os l (Ok rs) = (first_overflow os ≡ None) × (entries rs ≡ l)
GivesRows os l (Err e) = IsRefusal (first_overflow os) e
