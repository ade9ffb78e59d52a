use Rattle.std.proofs.Common.{◌≡◌, drop, map}
use Rattle.gb_full.specs.Loss.{known_of, known_seen}
use Rattle.gb_full.proofs.loss.known_of.Given as goal

abbrev pub invariant-loop-x : goal.invariant-loop-x
invariant-loop-x l = known_of (map known_seen (drop l.x-index l.known)) l.procedure ≡ known_of (map known_seen l.known) l.procedure
