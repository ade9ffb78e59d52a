use Rattle.std.proofs.Common.{◌≡◌, ◌++◌, map, drop}
use Rattle.gb_full.specs.Loss.{known_seen, reached_seen, round}
use Rattle.gb_full.proofs.loss.round.Given as goal

abbrev pub invariant-loop-x : goal.invariant-loop-x
invariant-loop-x l = map known_seen l.all ++ round l.scope l.full (map known_seen l.known) (map reached_seen (drop l.x-index l.list)) ≡ round l.scope l.full (map known_seen l.known) (map reached_seen l.list)
