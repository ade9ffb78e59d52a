use Rattle.std.proofs.Common.{◌≡◌, take}
use Rattle.gb_goal.proofs.instance.share_all.Given as goal

abbrev pub invariant-loop-e : goal.invariant-loop-e
invariant-loop-e l = l.out ≡ take l.e-index l.list
