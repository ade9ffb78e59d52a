use Rattle.std.proofs.Common.{◌≡◌, map, take}
use Rattle.gb_rewrite.specs.Rewriting.{hypothesis_rewritten, others}
use Rattle.gb_rewrite.proofs.goals.others.Given as goal

abbrev pub invariant-loop-i : goal.invariant-loop-i
invariant-loop-i l = l.made ≡ map (hypothesis_rewritten (l.replaced, l.by)) (others l.hyp (take l.i l.hyps))
