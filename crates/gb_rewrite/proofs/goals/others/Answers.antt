use Rattle.std.proofs.Common.{◌∙◌}
use Rattle.gb_rewrite.specs.Rewriting.{hypothesis_rewritten}
use Rattle.gb_rewrite.proofs.Others.{other_rewritten, one_left_out}
use Rattle.gb_rewrite.proofs.goals.others.Goals as goal
use Rattle.gb_rewrite.proofs.goals.others.Goals.{then-i-hyp+in_ok-other+in_ok-push, else-i-hyp}

pub loop-i-preserved : goal.loop-i-preserved
loop-i-preserved c =
    elim c.if-i-hyp.branch [
      | then-i-hyp+in_ok-other+in_ok-push w ↦
          other_rewritten (hypothesis_rewritten (c.args.replaced.now, c.args.by.now)) c.args.hyps.now c.loop-i.made c.if-i-hyp.made c.args.hyp c.loop-i.i c.loop-i-test.true c.loop-i.invariant w.index-hyps-i.result w.in_ok-other.other w.index-hyps-i.is w.if-i-hyp.true w.in_ok-other.ensures (w.made-is ∙ w.in_ok-push.ensures.ok)
      | else-i-hyp w ↦
          one_left_out (hypothesis_rewritten (c.args.replaced.now, c.args.by.now)) c.args.hyps.now c.loop-i.made c.if-i-hyp.made c.args.hyp c.loop-i.i c.loop-i-test.true c.loop-i.invariant w.if-i-hyp.false w.made-is
    ]
