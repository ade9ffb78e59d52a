use Rattle.std.proofs.Common.{◌≡◌, take}
use Rattle.gb_core.proofs.same.+same_ty.Given as goal

abbrev pub invariant-same_tys-loop-i : goal.invariant-same_tys-loop-i
invariant-same_tys-loop-i l = take l.i l.a ≡ take l.i l.b
