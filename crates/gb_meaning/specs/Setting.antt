-- What the names of a script stand for.
use Rattle.std.specs.Prelude.{ℕ, ℤ, List, Option}
use Rattle.gb_core.specs.declared.value.Value.{Value}
use Rattle.gb_terms.specs.declared.module.ProcRef.{ProcRef}
use Rattle.gb_dist.specs.WeightedList.{WeightedList}
use Rattle.gb_meaning.specs.Names.{Name}
use Rattle.gb_meaning.specs.Fractions.{Fraction}
use Rattle.gb_meaning.specs.Values.{Types}
use Rattle.gb_meaning.specs.Program.{Routine}

-- What a term means: a value of a finite type, a whole number, a fraction, or a distribution by its
-- weights, over the denominator of its tree.
pub data Meaning : Type 0 where
  finite : Value → Meaning
  whole : ℤ → Meaning
  fraction : Fraction → Meaning
  weights : WeightedList Value → Meaning

-- A setting gives the types their values, each operator of the script its function, and its denominator where its
-- results are distributions, and each procedure its linked tree.
pub record Setting : Type 0 where
  pub types : Types
  pub operator : Name → List Meaning → Meaning
  pub denominator : Name → ℕ
  pub procedure : ProcRef → Option Routine
