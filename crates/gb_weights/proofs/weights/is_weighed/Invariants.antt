use Rattle.std.proofs.Common.{◌≡◌, drop}
use Rattle.gb_weights.specs.Weights.{is_weighed}
use Rattle.gb_weights.proofs.weights.is_weighed.Given as goal

abbrev pub invariant-loop-pair : goal.invariant-loop-pair
invariant-loop-pair l = is_weighed l.number (drop l.pair-index l.pairs) ≡ is_weighed l.number l.pairs
