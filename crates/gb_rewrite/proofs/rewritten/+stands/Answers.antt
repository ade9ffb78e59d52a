use Rattle.std.proofs.Common.{sym, ◌∙◌}
use Rattle.gb_rewrite.specs.Rewritten.{stands}
use Rattle.gb_rewrite.proofs.Loops.{any_later, any_here, any_nowhere}
use Rattle.gb_rewrite.proofs.rewritten.+stands.Goals as goal

pub stands_in_any-loop-t-preserved : goal.stands_in_any-loop-t-preserved
stands_in_any-loop-t-preserved t c =
    any_later (stands c.args.sought.now) c.args.list.now c.loop-t.t-index c.loop-t.invariant c.t-item.result c.loop-t-test.true c.t-item.is (sym c.stands.ensures ∙ c.if-stands.false)

pub stands_in_any-returns-then-stands : goal.stands_in_any-returns-then-stands
stands_in_any-returns-then-stands t c =
    any_here (stands c.args.sought.now) c.args.list.now c.loop-t.t-index c.loop-t.invariant c.t-item.result c.loop-t-test.true c.t-item.is (sym c.stands.ensures ∙ c.if-stands.true)

pub stands_in_any-returns : goal.stands_in_any-returns
stands_in_any-returns t c = any_nowhere (stands c.args.sought.now) c.args.list.now c.loop-t.t-index c.loop-t.invariant c.loop-t-test.false
