use Rattle.std.proofs.Common.{◌≡◌, take}
use Rattle.gb_terms.proofs.same.+same_term.Given as goal

abbrev pub invariant-same_terms-loop-i : goal.invariant-same_terms-loop-i
invariant-same_terms-loop-i l = take l.i l.a ≡ take l.i l.b

abbrev pub invariant-same_instrs-loop-i : goal.invariant-same_instrs-loop-i
invariant-same_instrs-loop-i l = take l.i l.a ≡ take l.i l.b
