use Rattle.std.proofs.Common.{◌≡◌, drop}
use Rattle.gb_ended.specs.Ended.{first_among}
use Rattle.gb_ended.proofs.ended.first_among.Given as goal

abbrev pub invariant-loop-procedure : goal.invariant-loop-procedure
invariant-loop-procedure l = first_among l.scope l.module (drop l.procedure-index l.list) ≡ first_among l.scope l.module l.list
