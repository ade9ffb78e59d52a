use Rattle.std.proofs.Common.{◌≡◌, ◌≤◌, ◌+◌, drop}
use Rattle.gb_core.specs.declared.value.Value.{Value}
use Rattle.gb_dist.specs.WeightedList.{weight_at}
use Rattle.gb_dist.specs.Rows.{entries, weight_of}
use Rattle.gb_dist.proofs.parts.weight.Given as goal

abbrev pub invariant-loop-row : goal.invariant-loop-row
invariant-loop-row l = record {
  within : l.sum + weight_of (drop l.row-index l.t.rows) ≤ weight_of l.t.rows;
  value : (d : Discrete Value) → l.sum + weight_at d (entries (drop l.row-index l.t.rows)) l.v ≡ weight_at d (entries l.t.rows) l.v;
}
