use Rattle.std.proofs.Common.{◌≡◌, take}
use Rattle.gb_adv.proofs.oracles.shared.Given as goal

abbrev pub invariant-loop-procedure : goal.invariant-loop-procedure
invariant-loop-procedure l = l.all ≡ take l.procedure-index l.list
