use Rattle.std.proofs.Common.{◌≡◌, ◌++◌, drop}
use Rattle.gb_mods.specs.Asked.{asked_for}
use Rattle.gb_mods.proofs.asked.those.Given as goal

abbrev pub invariant-loop-o : goal.invariant-loop-o
invariant-loop-o l = l.all ++ asked_for l.params l.args (drop l.o-index l.oracles) ≡ l.fn.found ++ asked_for l.params l.args l.oracles
