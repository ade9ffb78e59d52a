use Rattle.std.proofs.Common.{◌≡◌, ◌++◌, drop, map}
use Rattle.gb_full.specs.Loss.{reached_seen}
use Rattle.gb_instances.specs.Lossless.{each_meant}
use Rattle.gb_instances.proofs.lossless.each_meant.Given as goal

abbrev pub invariant-loop-x : goal.invariant-loop-x
invariant-loop-x l = map reached_seen l.all ++ each_meant l.scope (drop l.x-index l.list) ≡ each_meant l.scope l.list
