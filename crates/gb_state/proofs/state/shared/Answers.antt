-- The goals are put on from below.
use Rattle.std.proofs.Common.{arith}
use Rattle.gb_state.proofs.Shared.{one_more, no_gap}
use Rattle.gb_state.proofs.state.shared.Goals as goal

pub loop-at-preserved-in_ok-push-in-Some : goal.loop-at-preserved-in_ok-push-in-Some
loop-at-preserved-in_ok-push-in-Some c =
    (omega arith, one_more _ _ _ c.loop-at.at _ _ (omega arith) c.loop-at.invariant.1 c.in-Some.ensures c.in_ok-share-in-Some.ensures c.in_ok-push-in-Some.ensures.ok)

pub loop-at-preserved : goal.loop-at-preserved
loop-at-preserved c = no_gap c.args.goals.now c.loop-at.at (omega arith) c.loop-at.invariant.0 c.in-None.ensures
