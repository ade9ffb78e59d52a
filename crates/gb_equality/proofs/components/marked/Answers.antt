use Rattle.std.proofs.Common.{◌+◌, ◌++◌, [], ◌∷◌, drop, sym, ap, ◌∙◌, append_assoc}
use Rattle.gb_equality.specs.Components.{marked}
use Rattle.gb_equality.proofs.Marks.{marked_in, marked_out}
use Rattle.gb_equality.proofs.components.marked.Goals as goal
use Rattle.gb_equality.proofs.components.marked.Goals.{then-marks-at+in_ok-share+in_ok-push, else-marks-at}

pub loop-at-preserved : goal.loop-at-preserved
loop-at-preserved c =
    elim c.if-marks-at.branch [
      | then-marks-at+in_ok-share+in_ok-push w ↦
          ap (λ l. l ++ marked c.args.wanted (drop (c.loop-at.at + 1) c.args.hyps.now) (drop (c.loop-at.at + 1) c.args.marks.now)) (w.out-is ∙ w.in_ok-push.ensures.ok ∙ ap (λ t. c.loop-at.out ++ t ∷ []) w.in_ok-share.ensures)
          ∙ append_assoc c.loop-at.out _ _
          ∙ ap (λ l. c.loop-at.out ++ l) (sym (marked_in c.args.wanted c.args.hyps.now c.args.marks.now c.loop-at.at c.loop-at-test.true c.requires w.index-hyps-at.result w.index-hyps-at.is w.if-marks-at.true))
          ∙ c.loop-at.invariant
      | else-marks-at w ↦
          ap (λ l. l ++ marked c.args.wanted (drop (c.loop-at.at + 1) c.args.hyps.now) (drop (c.loop-at.at + 1) c.args.marks.now)) w.out-is
          ∙ ap (λ l. c.loop-at.out ++ l) (sym (marked_out c.args.wanted c.args.hyps.now c.args.marks.now c.loop-at.at c.loop-at-test.true c.requires w.if-marks-at.false))
          ∙ c.loop-at.invariant
    ]
