use Rattle.std.proofs.Common.{◌≡◌, ℕ, true, false, get_or, sym, subst, ◌∙◌, arith}
use Rattle.std.proofs.lemmas.List.{get_or_default}
use Rattle.gb_closing.specs.Labels.{label_at}
use Rattle.gb_equality.specs.Search.{IsEquated}
use Rattle.gb_equality.proofs.Assuming.{still_read, still_rows, still_true, now_so, no_reading, more_true, assumed_so}
use Rattle.gb_equality.proofs.equality.assume.Goals as goal

pub returns-then-not-equate : goal.returns-then-not-equate
returns-then-not-equate c =
    no_reading c.args.hyps.now c.args.conclusion c.args.labels.now c.loop-place.labels c.equate.new.labels (get_or c.args.hyps.now c.loop-place.place-index 0) 1 (omega arith) c.loop-place.invariant.reads
    (subst (λ l. IsEquated l 1 c.loop-place.labels c.equate.new.labels false) c.label_at-label.ensures c.if-not-equate.ensures)
    (λ read r. r.assumed c.loop-place.place-index 0 c.loop-place-test.true)

pub loop-place-preserved : goal.loop-place-preserved
loop-place-preserved c =
    let p : ℕ = get_or c.args.hyps.now c.loop-place.place-index 0 in
    let e : IsEquated (label_at c.loop-place.labels p) 1 c.loop-place.labels c.equate.new.labels true =
    subst (λ l. IsEquated l 1 c.loop-place.labels c.equate.new.labels true) c.label_at-label.ensures c.if-not-equate.ensures in
    record {
      rows = still_rows c.args.hyps.now c.args.conclusion c.args.labels.now c.loop-place.labels c.equate.new.labels p 1 (omega arith) c.loop-place.invariant.reads e ∙ c.loop-place.invariant.rows;
      assumed =
          more_true c.loop-place.labels c.equate.new.labels c.args.hyps.now c.loop-place.place-index p c.loop-place-test.true (get_or_default c.args.hyps.now c.loop-place.place-index 0 p c.loop-place-test.true)
          (still_true c.args.hyps.now c.args.conclusion c.args.labels.now c.loop-place.labels c.equate.new.labels p 1 (omega arith) c.loop-place.invariant.reads e)
          (now_so c.args.hyps.now c.args.conclusion c.args.labels.now c.loop-place.labels c.equate.new.labels p 1 (omega arith) c.loop-place.invariant.reads e) c.loop-place.invariant.assumed;
      reads =
          still_read c.args.hyps.now c.args.conclusion c.args.labels.now c.loop-place.labels c.equate.new.labels p 1 (omega arith) c.loop-place.invariant.reads e
          (λ read r. r.assumed c.loop-place.place-index 0 c.loop-place-test.true ∙ sym r.truth);
    }

pub returns : goal.returns
returns c =
    assumed_so c.args.hyps.now c.args.conclusion c.args.labels.now c.loop-place.labels c.equate-2.new.labels c.loop-place.place-index c.loop-place-test.false c.loop-place.invariant.rows c.loop-place.invariant.assumed c.loop-place.invariant.reads
    c.equate-2.result (subst (λ l. IsEquated l 0 c.loop-place.labels c.equate-2.new.labels c.equate-2.result) c.label_at-label-2.ensures c.equate-2.ensures)
