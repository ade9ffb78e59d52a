use Rattle.std.proofs.Common.{◌≡◌, ℕ, ◌+◌, drop}
use Rattle.std.specs.List.{All}
use Rattle.gb_core.specs.declared.value.Value.{Value}
use Rattle.gb_dist.specs.WeightedList.{mass}
use Rattle.gb_dist.specs.Places.{placed_mass}
use Rattle.gb_dist.specs.Rows.{entries}
use Rattle.gb_dist.proofs.Gathering.{IsAt}
use Rattle.gb_dist.proofs.sort.gathered.Given as goal

abbrev pub invariant-loop-row : goal.invariant-loop-row
invariant-loop-row l = record {
  placed : All (IsAt l.ty) l.list.items;
  mass : (f : Value → ℕ) → placed_mass f l.list.items + mass (entries (drop l.row-index l.rows)) f ≡ mass (entries l.rows) f;
}
