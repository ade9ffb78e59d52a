use Rattle.std.proofs.Common.{Err, ap, ◌∙◌}
use Rattle.std.proofs.lemmas.Result.{err_from_is_err_and}
use Rattle.gb_linear.specs.Forms.{each_scaled}
use Rattle.gb_linear.proofs.Passed.{fails_with}
use Rattle.gb_linear.proofs.Steps.{at_start, scaled_on, scaled_fails, scaled_all}
use Rattle.gb_linear.proofs.forms.each_scaled.Goals as goal

pub loop-x-init : goal.loop-x-init
loop-x-init c = at_start c.new-out.result (each_scaled c.args.on c.args.factor c.args.list.now) c.new-out.ensures

pub loop-x-preserved : goal.loop-x-preserved
loop-x-preserved c =
    scaled_on c.args.on c.args.factor c.args.list.now c.loop-x.out c.loop-x.x-index c.loop-x.invariant
    c.x-item.result c.loop-x-test.true c.x-item.is
    c.push.new.self c.in_ok-number.number c.in_ok-summand.summand c.in_ok-number.ensures c.in_ok-summand.ensures c.in_ok-push.ensures.ok

pub returns-in_err-number : goal.returns-in_err-number
returns-in_err-number c =
    let e = err_from_is_err_and c.from_residual.result c.from_residual.ensures.1 in
    fails_with (each_scaled c.args.on c.args.factor c.args.list.now) c.from_residual.result c.in_err-number.field-0.0
    (scaled_fails c.args.on c.args.factor c.args.list.now c.loop-x.out c.loop-x.x-index c.loop-x.invariant
    c.x-item.result c.loop-x-test.true c.x-item.is c.in_err-number.field-0.0 c.in_err-number.ensures)
    (e.1 ∙ ap Err e.2)

pub returns : goal.returns
returns c = scaled_all c.args.on c.args.factor c.args.list.now c.loop-x.out c.loop-x.x-index c.loop-x.invariant c.loop-x-test.false
