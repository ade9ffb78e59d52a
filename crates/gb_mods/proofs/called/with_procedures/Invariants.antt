use Rattle.std.proofs.Common.{◌≡◌, ◌++◌, take}
use Rattle.gb_mods.proofs.called.with_procedures.Given as goal

abbrev pub invariant-loop-x : goal.invariant-loop-x
invariant-loop-x l = l.all ≡ l.fn.found ++ take l.x-index l.list
