use Rattle.std.proofs.Common.{◌≡◌, ◌+◌, ◌<◌, ◌^◌, drop}
use Rattle.gb_dist.specs.Operations.{first_overflow}
use Rattle.gb_dist.specs.Rows.{adding_steps, entries, weight_of}
use Rattle.gb_dist.proofs.order.sum_of.Given as goal

abbrev pub invariant-loop-row : goal.invariant-loop-row
invariant-loop-row l = record {
  steps : first_overflow (adding_steps l.total (entries (drop l.row-index l.rows))) ≡ first_overflow (adding_steps 0 (entries l.rows));
  sum : l.total + weight_of (drop l.row-index l.rows) ≡ weight_of l.rows;
  below : l.total < 2 ^ 127;
}
