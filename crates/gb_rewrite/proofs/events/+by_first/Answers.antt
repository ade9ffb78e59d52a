use Rattle.std.proofs.Common.{sym, ◌∙◌}
use Rattle.gb_rewrite.proofs.Layered.{passing_none, stays, gives_way, none_gives_way}
use Rattle.gb_rewrite.proofs.events.+by_first.Goals as goal

pub any_by_law-loop-at-init : goal.any_by_law-loop-at-init
any_by_law-loop-at-init t c = passing_none c.args.scope.now c.args.law.now c.args.list.now

pub any_by_law-loop-at-preserved : goal.any_by_law-loop-at-preserved
any_by_law-loop-at-preserved t c =
    stays c.args.scope.now c.args.law.now c.args.list.now c.loop-at.at c.index-list-at.result c.loop-at-test.true c.index-list-at.is c.loop-at.invariant (sym c.in_default.is ∙ c.in_ok-part.ensures)

pub any_by_law-returns-in-Some : goal.any_by_law-returns-in-Some
any_by_law-returns-in-Some t c =
    gives_way c.args.scope.now c.args.law.now c.args.list.now c.loop-at.at c.index-list-at.result c.loop-at-test.true c.index-list-at.is c.loop-at.invariant
    c.in-Some.part c.in_ok-made.made (sym c.in-Some.is ∙ c.in_ok-part.ensures) c.in_ok-made.ensures

pub any_by_law-returns : goal.any_by_law-returns
any_by_law-returns t c = none_gives_way c.args.scope.now c.args.law.now c.args.list.now c.loop-at.at c.loop-at-test.false c.loop-at.invariant
