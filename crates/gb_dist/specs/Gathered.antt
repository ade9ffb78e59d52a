-- What calls give that put rows in order.
use Rattle.std.specs.Prelude.{◌≡◌, ℕ, None, Result, Ok, Err, List}
use Rattle.gb_core.specs.declared.refusal.Refused.{Refused}
use Rattle.gb_core.specs.declared.ty.Ty.{Ty}
use Rattle.gb_core.specs.declared.value.Value.{Value}
use Rattle.gb_dist.specs.WeightedList.{WeightedList}
use Rattle.gb_dist.specs.Operations.{Operation, first_overflow}
use Rattle.gb_dist.specs.declared.table.Table.{Table}
use Rattle.gb_dist.specs.Places.{IsGathered}
use Rattle.gb_dist.specs.Tables.{IsRefusal}

-- What a call gives that computes a number by these operations.
abbrev pub GivesSum : List Operation → ℕ → Result ℕ Refused → Type 0
GivesSum os n (Ok k) = (first_overflow os ≡ None) × (k ≡ n)
GivesSum os n (Err e) = IsRefusal (first_overflow os) e

-- What a call gives that computes by these operations: what is gathered of this list in the order of a type, over this
-- denominator, or its refusal.
abbrev pub GivesGathered : List Operation → ℕ → Ty → WeightedList Value → Result Table Refused → Type 0
GivesGathered os n ty l (Ok t) = (first_overflow os ≡ None) × (t.total ≡ n) × IsGathered ty l t.rows
GivesGathered os n ty l (Err e) = IsRefusal (first_overflow os) e
