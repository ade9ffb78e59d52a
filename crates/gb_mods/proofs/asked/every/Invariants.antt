use Rattle.std.proofs.Common.{◌≡◌, ◌++◌, drop}
use Rattle.gb_mods.specs.Asked.{all_oracles, asked_for}
use Rattle.gb_mods.proofs.asked.every.Given as goal

abbrev pub invariant-loop-q : goal.invariant-loop-q
invariant-loop-q l = l.all ++ asked_for l.params l.args (all_oracles l.scope (drop l.q-index l.params)) ≡ l.fn.found ++ asked_for l.params l.args (all_oracles l.scope l.params)
