use Rattle.std.proofs.Common.{◌≡◌, ℕ, ◌<◌, ◌≤◌, ◌+◌, ◌-◌, true, length, drop, get_or}
use Rattle.gb_core.specs.declared.value.Value.{Value}
use Rattle.gb_dist.specs.WeightedList.{mass}
use Rattle.gb_dist.specs.declared.sort.Placed.{Placed}
use Rattle.gb_dist.specs.Lists.{IsIncreasing}
use Rattle.gb_dist.specs.Rows.{entries, are_positive}
use Rattle.gb_dist.specs.Places.{placed_mass, places, ArePlacedBy}
use Rattle.gb_dist.proofs.Rising.{IsUnder}
use Rattle.gb_dist.proofs.sort.merged.Given as goal

abbrev pub invariant-loop-at : goal.invariant-loop-at
invariant-loop-at l = record {
  within : l.at ≤ length l.list;
  mass : (f : Value → ℕ) → mass (entries l.rows) f + placed_mass f (drop l.at l.list) ≡ placed_mass f l.list;
  positive : are_positive l.rows ≡ true;
  increasing : (p : Value → ℕ) → ArePlacedBy p l.list → IsIncreasing (places p (entries l.rows));
  under : (p : Value → ℕ) → ArePlacedBy p l.list → (k : ℕ) (d : Placed) → l.at ≤ k → k < length l.list → IsUnder (places p (entries l.rows)) (get_or l.list k d).place;
}

abbrev pub decreases-loop-at : goal.decreases-loop-at
decreases-loop-at l = length l.list - l.at
