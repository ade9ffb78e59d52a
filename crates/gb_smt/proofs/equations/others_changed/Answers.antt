use Rattle.std.proofs.Common.{◌∙◌}
use Rattle.gb_walk.specs.Change.{term_changed}
use Rattle.gb_smt.proofs.Uses.{other_changed, one_dropped}
use Rattle.gb_smt.proofs.equations.others_changed.Goals as goal
use Rattle.gb_smt.proofs.equations.others_changed.Goals.{then-at-place+in_ok-changed+in_ok-push, else-at-place}

pub loop-at-preserved : goal.loop-at-preserved
loop-at-preserved c =
    elim c.if-at-place.branch [
      | then-at-place+in_ok-changed+in_ok-push w ↦
          other_changed (λ t. term_changed t c.args.changes.now) c.args.hyps.now c.loop-at.out c.if-at-place.out _ c.args.place c.loop-at.at c.loop-at-test.true c.loop-at.invariant w.index-hyps-at.result w.in_ok-changed.field-0 w.index-hyps-at.is w.if-at-place.true w.in_ok-changed.ensures (w.out-is ∙ w.in_ok-push.ensures.ok)
      | else-at-place w ↦
          one_dropped (λ t. term_changed t c.args.changes.now) c.args.hyps.now c.loop-at.out c.if-at-place.out _ c.args.place c.loop-at.at c.loop-at-test.true c.loop-at.invariant w.if-at-place.false w.out-is
    ]
