use Rattle.std.proofs.Common.{true, false, sym, ◌∙◌}
use Rattle.gb_rewrite.specs.Rewritten.{rewritten}
use Rattle.gb_rewrite.proofs.Loops.{mapped, all_mapped}
use Rattle.gb_rewrite.proofs.Parts.{other_term, other_args}
use Rattle.gb_rewrite.proofs.rewritten.+rewritten.Goals as goal

pub rewritten-returns-then-is_same : goal.rewritten-returns-then-is_same
rewritten-returns-then-is_same t c = other_term c.args.replaced.now c.args.by.now c.args.t.now c.share.result (sym c.if-is_same.true ∙ c.is_same.ensures) c.share.ensures

pub rewritten-returns-then-is_quotient : goal.rewritten-returns-then-is_quotient
rewritten-returns-then-is_quotient t c =
    other_args c.args.replaced.now c.args.by.now c.args.t.now c.with_args.result c.get.result.now true c.as_slice.result.now c.in_ok-args.args
    (sym c.if-is_same.false ∙ c.is_same.ensures) c.get.ensures (sym c.if-is_quotient.true ∙ c.is_quotient.ensures) c.as_slice.ensures c.in_ok-args.ensures c.with_args.ensures

pub rewritten-returns : goal.rewritten-returns
rewritten-returns t c =
    other_args c.args.replaced.now c.args.by.now c.args.t.now c.with_args-2.result c.get.result.now false c.as_slice-2.result.now c.in_ok-args-2.args
    (sym c.if-is_same.false ∙ c.is_same.ensures) c.get.ensures (sym c.if-is_quotient.false ∙ c.is_quotient.ensures) c.as_slice-2.ensures c.in_ok-args-2.ensures c.with_args-2.ensures

pub all_rewritten-loop-t-preserved : goal.all_rewritten-loop-t-preserved
all_rewritten-loop-t-preserved t c =
    mapped (rewritten c.args.replaced.now c.args.by.now) c.args.list.now c.loop-t.t-index c.t-item.result c.loop-t.made c.push.new.self c.in_ok-t.t
    c.loop-t-test.true c.t-item.is c.loop-t.invariant c.in_ok-t.ensures c.in_ok-push.ensures.ok

pub all_rewritten-returns : goal.all_rewritten-returns
all_rewritten-returns t c =
    all_mapped (rewritten c.args.replaced.now c.args.by.now) c.args.list.now c.loop-t.t-index c.loop-t.made c.loop-t-test.false c.loop-t.invariant
