use Rattle.std.proofs.Common.{◌≡◌, ◌++◌, drop}
use Rattle.gb_mods.specs.Reach.{given_for}
use Rattle.gb_mods.proofs.reach.given_for.Given as goal

abbrev pub invariant-loop-x : goal.invariant-loop-x
invariant-loop-x l = l.all ++ given_for l.params l.args (drop l.x-index l.list) ≡ l.fn.found ++ given_for l.params l.args l.list
