use Rattle.std.proofs.Common.{◌≡◌, ◌++◌, drop}
use Rattle.gb_ended.specs.Named.{modules_of}
use Rattle.gb_ended.proofs.named.modules_of.Given as goal

abbrev pub invariant-loop-x : goal.invariant-loop-x
invariant-loop-x l = l.all ++ modules_of (drop l.x-index l.list) ≡ l.fn.found ++ modules_of l.list
