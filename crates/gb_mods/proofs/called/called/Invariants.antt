use Rattle.std.proofs.Common.{◌≡◌, ◌++◌, drop}
use Rattle.gb_mods.specs.Called.{called}
use Rattle.gb_mods.proofs.called.called.Given as goal

abbrev pub invariant-loop-x : goal.invariant-loop-x
invariant-loop-x l = l.all ++ called l.scope (drop l.x-index l.list) ≡ called l.scope l.list
