use Rattle.std.proofs.Common.{◌≡◌, ◌≤◌, ◌+◌, drop}
use Rattle.gb_dist.specs.WeightedList.{total}
use Rattle.gb_dist.specs.Lists.{kept}
use Rattle.gb_dist.specs.Rows.{entries, weight_of}
use Rattle.gb_dist.proofs.parts.mass.Given as goal

abbrev pub invariant-loop-at : goal.invariant-loop-at
invariant-loop-at l = record {
  within : l.sum + weight_of (drop l.at l.t.rows) ≤ weight_of l.t.rows;
  value : l.sum + total (kept (drop l.at l.event) (entries (drop l.at l.t.rows))) ≡ total (kept l.event (entries l.t.rows));
}
