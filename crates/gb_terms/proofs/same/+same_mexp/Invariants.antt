use Rattle.std.proofs.Common.{◌≡◌, take}
use Rattle.gb_terms.proofs.same.+same_mexp.Given as goal

abbrev pub invariant-same_mexps-loop-i : goal.invariant-same_mexps-loop-i
invariant-same_mexps-loop-i l = take l.i l.a ≡ take l.i l.b
