use Rattle.std.proofs.Common.{Err, ap, ◌∙◌}
use Rattle.std.proofs.lemmas.Result.{err_from_is_err_and}
use Rattle.gb_linear.specs.Closing.{with_all}
use Rattle.gb_linear.proofs.Passed.{fails_with}
use Rattle.gb_linear.proofs.Steps.{with_all_on, added_fails, combined_fails, with_all_is}
use Rattle.gb_linear.proofs.apply.with_all.Goals as goal

pub loop-assumption-preserved : goal.loop-assumption-preserved
loop-assumption-preserved c =
    with_all_on c.args.form c.loop-assumption.sum c.args.assumptions.now c.loop-assumption.assumption-index c.loop-assumption.invariant
    c.assumption-item.result c.loop-assumption-test.true c.assumption-item.is c.in_ok-more.more c.in_ok-sum.sum c.in_ok-more.ensures c.in_ok-sum.ensures

pub returns-in_err-more : goal.returns-in_err-more
returns-in_err-more c =
    let e = err_from_is_err_and c.from_residual.result c.from_residual.ensures.1 in
    fails_with (with_all c.args.form c.args.assumptions.now) c.from_residual.result c.in_err-more.field-0.0
    (added_fails c.args.form c.loop-assumption.sum c.args.assumptions.now c.loop-assumption.assumption-index c.loop-assumption.invariant
    c.assumption-item.result c.loop-assumption-test.true c.assumption-item.is c.in_err-more.field-0.0 c.in_err-more.ensures)
    (e.1 ∙ ap Err e.2)

pub returns-in_err-sum : goal.returns-in_err-sum
returns-in_err-sum c =
    let e = err_from_is_err_and c.from_residual-in_err-sum.result c.from_residual-in_err-sum.ensures.1 in
    fails_with (with_all c.args.form c.args.assumptions.now) c.from_residual-in_err-sum.result c.in_err-sum.field-0.0
    (combined_fails c.args.form c.loop-assumption.sum c.args.assumptions.now c.loop-assumption.assumption-index c.loop-assumption.invariant
    c.assumption-item.result c.loop-assumption-test.true c.assumption-item.is c.in_ok-more.more c.in_err-sum.field-0.0 c.in_ok-more.ensures c.in_err-sum.ensures)
    (e.1 ∙ ap Err e.2)

pub returns : goal.returns
returns c =
    with_all_is c.args.form c.loop-assumption.sum c.args.assumptions.now c.loop-assumption.assumption-index c.loop-assumption.invariant c.loop-assumption-test.false
