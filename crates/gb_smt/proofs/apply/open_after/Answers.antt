use Rattle.std.proofs.Common.{◌+◌, drop, ap, ◌∙◌}
use Rattle.gb_smt.specs.Apply.{open_after}
use Rattle.gb_smt.proofs.Trials.{open_stop, open_next}
use Rattle.gb_smt.proofs.apply.open_after.Goals as goal

pub returns-in_default : goal.returns-in_default
returns-in_default c =
    open_stop c.args.scope.now c.args.list.now c.loop-claim.claim-index c.claim-item.result c.loop-claim.shown c.in_ok-more.field-0 c.loop-claim-test.true c.claim-item.is c.in_ok-more.ensures c.in_default.is
    ∙ c.loop-claim.invariant

pub loop-claim-preserved : goal.loop-claim-preserved
loop-claim-preserved c =
    ap (λ o. open_after c.args.scope.now o (drop (c.loop-claim.claim-index + 1) c.args.list.now)) c.and_then-shown.ensures
    ∙ open_next c.args.scope.now c.args.list.now c.loop-claim.claim-index c.claim-item.result c.loop-claim.shown c.in_ok-more.field-0 c.loop-claim-test.true c.claim-item.is c.in_ok-more.ensures c.in-Some.more c.in-Some.is
    ∙ c.loop-claim.invariant
