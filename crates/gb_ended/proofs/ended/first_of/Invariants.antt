use Rattle.std.proofs.Common.{◌≡◌, drop}
use Rattle.gb_ended.specs.Ended.{first_of}
use Rattle.gb_ended.proofs.ended.first_of.Given as goal

abbrev pub invariant-loop-i : goal.invariant-loop-i
invariant-loop-i l = first_of l.scope l.names (drop l.i l.scope) ≡ first_of l.scope l.names l.scope
