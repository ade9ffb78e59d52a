use Rattle.std.proofs.Common.{◌≡◌, take}
use Rattle.gb_core.proofs.same.+same_value.Given as goal

abbrev pub invariant-same_values-loop-i : goal.invariant-same_values-loop-i
invariant-same_values-loop-i l = take l.i l.a ≡ take l.i l.b
