use Rattle.std.proofs.Common.{Err, ap, ◌∙◌}
use Rattle.std.proofs.lemmas.Result.{err_from_is_err_and}
use Rattle.gb_linear.specs.Forms.{merged}
use Rattle.gb_linear.proofs.Passed.{fails_with}
use Rattle.gb_linear.proofs.Steps.{at_start, merged_on, merged_fails, merged_answers}
use Rattle.gb_linear.proofs.forms.merged.Goals as goal

pub loop-x-init : goal.loop-x-init
loop-x-init c =
    at_start c.new-out.result (merged c.args.sign c.args.first.now c.in_ok-left.left) c.new-out.ensures
    ∙ ap (merged c.args.sign c.args.first.now) c.in_ok-left.ensures

pub loop-x-preserved : goal.loop-x-preserved
loop-x-preserved c =
    merged_on c.args.sign c.args.first.now c.args.second.now c.loop-x.left c.loop-x.out c.loop-x.x-index c.loop-x.invariant
    c.x-item.result c.take-other.result c.loop-x-test.true c.x-item.is c.take-other.ensures.coefficient
    c.take-other.new.list c.push.new.self c.in_ok-number.number c.in_ok-summand.summand
    c.take-other.ensures.others c.in_ok-number.ensures c.in_ok-summand.ensures c.in_ok-push.ensures.ok

pub returns-in_err-number : goal.returns-in_err-number
returns-in_err-number c =
    let e = err_from_is_err_and c.from_residual-in_err-number.result c.from_residual-in_err-number.ensures.1 in
    fails_with (merged c.args.sign c.args.first.now c.args.second.now) c.from_residual-in_err-number.result c.in_err-number.field-0.0
    (merged_fails c.args.sign c.args.first.now c.args.second.now c.loop-x.left c.loop-x.out c.loop-x.x-index c.loop-x.invariant
    c.x-item.result c.take-other.result c.loop-x-test.true c.x-item.is c.take-other.ensures.coefficient
    c.in_err-number.field-0.0 c.in_err-number.ensures)
    (e.1 ∙ ap Err e.2)

pub returns : goal.returns
returns c =
    merged_answers c.args.sign c.args.first.now c.args.second.now c.loop-x.left c.loop-x.out c.loop-x.x-index c.loop-x.invariant
    c.as_slice.result.now c.besides.result c.loop-x-test.false c.as_slice.ensures c.besides.ensures
