use Rattle.std.proofs.Common.{◌∙◌}
use Rattle.gb_smt.proofs.Trials.{closed_more, all_closed, first_open}
use Rattle.gb_smt.proofs.apply.close_goal.Goals as goal

pub returns-in-Some : goal.returns-in-Some
returns-in-Some c =
    first_open c.args.scope.now c.as_slice-leaf-items.result.now _ c.loop-leaf.leaf-index c.leaf-item.result c.in_ok-why.field-0 c.in-Some.why (c.as_slice-leaf-items.ensures ∙ c.in_ok-list.ensures) c.loop-leaf-test.true c.leaf-item.is c.loop-leaf.invariant c.in_ok-why.ensures c.in-Some.is

pub loop-leaf-preserved : goal.loop-leaf-preserved
loop-leaf-preserved c =
    closed_more c.args.scope.now c.as_slice-leaf-items.result.now c.loop-leaf.leaf-index c.leaf-item.result c.in_ok-why.field-0 c.loop-leaf-test.true c.leaf-item.is c.loop-leaf.invariant c.in_ok-why.ensures c.in_default.not-Some

pub returns : goal.returns
returns c =
    all_closed c.args.scope.now c.as_slice-leaf-items.result.now _ c.loop-leaf.leaf-index c.loop-leaf-test.false (c.as_slice-leaf-items.ensures ∙ c.in_ok-list.ensures) c.loop-leaf.invariant
