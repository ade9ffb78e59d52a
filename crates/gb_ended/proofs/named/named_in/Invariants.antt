use Rattle.std.proofs.Common.{◌≡◌, ◌++◌, drop}
use Rattle.gb_ended.specs.Named.{named_in}
use Rattle.gb_ended.proofs.named.named_in.Given as goal

abbrev pub invariant-loop-procedure : goal.invariant-loop-procedure
invariant-loop-procedure l = l.all ++ named_in (drop l.procedure-index l.list) ≡ l.fn.found ++ named_in l.list
