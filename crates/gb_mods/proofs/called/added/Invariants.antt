use Rattle.std.proofs.Common.{◌≡◌, drop}
use Rattle.gb_mods.specs.Called.{added}
use Rattle.gb_mods.proofs.called.added.Given as goal

abbrev pub invariant-loop-x : goal.invariant-loop-x
invariant-loop-x l = added l.all (drop l.x-index l.list) ≡ added l.fn.found l.list
