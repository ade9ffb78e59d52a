use Rattle.std.proofs.Common.{◌≡◌, ◌++◌, ◌∷◌, [], drop, pos}
use Rattle.gb_dist.specs.WeightedList.{scale}
use Rattle.gb_dist.specs.Operations.{product_of, first_overflow}
use Rattle.gb_dist.specs.Rows.{entries, scaling_steps}
use Rattle.gb_dist.proofs.parts.choose.Given as goal

abbrev pub invariant-loop-row : goal.invariant-loop-row
invariant-loop-row l = record {
  rows : entries l.rows ++ scale l.other (entries (drop l.row-index l.chosen.rows)) ≡ scale l.other (entries l.chosen.rows);
  steps : first_overflow (scaling_steps (entries (drop l.row-index l.chosen.rows)) l.other ++ product_of (pos l.chosen.total) (pos l.other) ∷ [])
      ≡ first_overflow (scaling_steps (entries l.chosen.rows) l.other ++ product_of (pos l.chosen.total) (pos l.other) ∷ []);
}
