use Rattle.std.proofs.Common.{◌≡◌, ◌++◌, drop}
use Rattle.gb_dist.specs.Rows.{entries}
use Rattle.gb_meaning.specs.Distributions.{stated}
use Rattle.gb_eval.proofs.making.rows_of.Given as goal

abbrev pub invariant-loop-pair : goal.invariant-loop-pair
invariant-loop-pair l = entries l.rows ++ stated (drop l.pair-index l.pairs) ≡ stated l.pairs
