use Rattle.std.proofs.Common.{sym, ap, ◌∙◌}
use Rattle.gb_closing.specs.Linked.{share}
use Rattle.gb_closing.proofs.Marks.{linked_unmarked, linked_apart}
use Rattle.gb_closing.proofs.linked.is_linked.Goals as goal
use Rattle.gb_closing.proofs.linked.is_linked.Goals.{else-marks-at-via-then-marks-at+else-share, else-marks-at-via-else-marks-at}

pub loop-at-preserved : goal.loop-at-preserved
loop-at-preserved c =
    elim c.else-marks-at.branch [
      | else-marks-at-via-then-marks-at+else-share w ↦
          sym (linked_apart c.args.own.now c.args.all.now c.args.marks.now c.loop-at.at c.loop-at-test.true c.requires w.index-all-at.result w.index-all-at.is (ap (share c.args.own.now) (sym w.as_slice.ensures) ∙ sym w.share.ensures ∙ w.if-share.false))
          ∙ c.loop-at.invariant
      | else-marks-at-via-else-marks-at w ↦
          sym (linked_unmarked c.args.own.now c.args.all.now c.args.marks.now c.loop-at.at c.loop-at-test.true c.requires w.if-marks-at.false)
          ∙ c.loop-at.invariant
    ]
