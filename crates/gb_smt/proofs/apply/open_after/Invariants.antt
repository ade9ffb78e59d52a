use Rattle.std.proofs.Common.{◌≡◌, drop}
use Rattle.gb_smt.specs.Apply.{open_after}
use Rattle.gb_smt.proofs.apply.open_after.Given as goal

abbrev pub invariant-loop-claim : goal.invariant-loop-claim
invariant-loop-claim l = open_after l.scope l.shown (drop l.claim-index l.list) ≡ open_after l.scope l.fn.from l.list
