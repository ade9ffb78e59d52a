use Rattle.std.proofs.Common.{◌≡◌, ◌++◌, map, drop}
use Rattle.gb_full.specs.Loss.{meant_each, reached_seen}
use Rattle.gb_full.proofs.loss.meant_each.Given as goal

abbrev pub invariant-loop-x : goal.invariant-loop-x
invariant-loop-x l = map reached_seen l.all ++ meant_each l.scope (drop l.x-index l.list) ≡ meant_each l.scope l.list
