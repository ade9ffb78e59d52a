use Rattle.std.proofs.Common.{◌≡◌, drop}
use Rattle.gb_meaning.specs.Distributions.{stated}
use Rattle.gb_eval.specs.Totals.{are_weights}
use Rattle.gb_eval.proofs.total.are_weights.Given as goal

abbrev pub invariant-loop-pair : goal.invariant-loop-pair
invariant-loop-pair l = are_weights (stated (drop l.pair-index l.pairs)) ≡ are_weights (stated l.pairs)
