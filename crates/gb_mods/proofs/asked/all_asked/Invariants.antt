use Rattle.std.proofs.Common.{◌≡◌, ◌++◌, drop}
use Rattle.gb_mods.specs.Asked.{asked_for, oracles_in}
use Rattle.gb_mods.proofs.asked.all_asked.Given as goal

abbrev pub invariant-loop-s : goal.invariant-loop-s
invariant-loop-s l = l.all ++ asked_for l.params l.args (oracles_in l.parameter (drop l.s-index l.signatures)) ≡ l.fn.found ++ asked_for l.params l.args (oracles_in l.parameter l.signatures)
