use Rattle.std.proofs.Common.{◌≡◌, ◌+◌, ◌<◌, ◌^◌, drop}
use Rattle.gb_dist.specs.WeightedList.{total}
use Rattle.gb_dist.specs.Operations.{first_overflow}
use Rattle.gb_dist.specs.Rows.{adding_steps}
use Rattle.gb_meaning.specs.Distributions.{stated}
use Rattle.gb_eval.proofs.total.sum_of.Given as goal

abbrev pub invariant-loop-pair : goal.invariant-loop-pair
invariant-loop-pair l = record {
  steps : first_overflow (adding_steps l.total (stated (drop l.pair-index l.pairs))) ≡ first_overflow (adding_steps 0 (stated l.pairs));
  sum : l.total + total (stated (drop l.pair-index l.pairs)) ≡ total (stated l.pairs);
  below : l.total < 2 ^ 127;
}
