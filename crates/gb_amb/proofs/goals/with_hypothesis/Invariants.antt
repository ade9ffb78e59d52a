use Rattle.std.proofs.Common.{◌≡◌, take}
use Rattle.gb_amb.proofs.goals.with_hypothesis.Given as goal

abbrev pub invariant-loop-hyp : goal.invariant-loop-hyp
invariant-loop-hyp l = l.more ≡ take l.hyp-index l.hyps
