use Rattle.std.proofs.Common.{rules}
use Rattle.gb_call.proofs.OutcomeSteps.{for_all_front}
use Rattle.gb_call.proofs.outcomes.for_all.Goals as goal

pub loop-k-preserved : goal.loop-k-preserved
loop-k-preserved c =
    let e = for_all_front c.args.side c.args.globals.now c.loop-k.k c.index-globals-at.result c.loop-k.all c.loop-k-test.true c.index-globals-at.is in
    search (rules, e, c.loop-k.invariant)
