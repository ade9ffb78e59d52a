use Rattle.std.proofs.Common.{sym, ◌∙◌}
use Rattle.gb_linear.specs.Closing.{all_assumed}
use Rattle.gb_linear.proofs.Steps.{all_at_start, all_at_end, all_none, all_on}
use Rattle.gb_linear.proofs.apply.all_assumed.Goals as goal

pub loop-multiple-init : goal.loop-multiple-init
loop-multiple-init c = all_at_start c.new-out.result (all_assumed c.args.equal c.args.hyps.now c.args.multiples.now) c.new-out.ensures

pub loop-multiple-preserved : goal.loop-multiple-preserved
loop-multiple-preserved c =
    all_on c.args.equal c.args.hyps.now c.args.multiples.now c.loop-multiple.out c.loop-multiple.multiple-index c.loop-multiple.invariant
    c.multiple-item.result c.loop-multiple-test.true c.multiple-item.is
    c.in-Some.assumption c.push.new.self (sym c.in-Some.is ∙ c.in_ok-assumption.ensures) c.in_ok-push.ensures.ok

pub returns-in_default : goal.returns-in_default
returns-in_default c =
    sym (all_none c.args.equal c.args.hyps.now c.args.multiples.now c.loop-multiple.out c.loop-multiple.multiple-index c.loop-multiple.invariant
    c.multiple-item.result c.loop-multiple-test.true c.multiple-item.is (sym c.in_default.is ∙ c.in_ok-assumption.ensures))

pub returns : goal.returns
returns c =
    sym (all_at_end c.args.equal c.args.hyps.now c.args.multiples.now c.loop-multiple.out c.loop-multiple.multiple-index c.loop-multiple.invariant c.loop-multiple-test.false)
