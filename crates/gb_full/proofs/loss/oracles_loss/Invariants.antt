use Rattle.std.proofs.Common.{◌≡◌, drop, map}
use Rattle.gb_full.specs.Loss.{known_seen, oracles_loss}
use Rattle.gb_full.proofs.loss.oracles_loss.Given as goal

abbrev pub invariant-loop-x : goal.invariant-loop-x
invariant-loop-x l = oracles_loss (map known_seen l.known) (drop l.x-index l.list) ≡ oracles_loss (map known_seen l.known) l.list
