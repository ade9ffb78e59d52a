use Rattle.std.proofs.Common.{rules, ◌∙◌}
use Rattle.gb_call_both.proofs.BothSteps.{global_next}
use Rattle.gb_call_both.proofs.both.with_globals.Goals as goal

pub loop-global-preserved : goal.loop-global-preserved
loop-global-preserved c =
    let e = global_next c.args.side c.args.globals.now c.loop-global.global-index c.global-item.result c.loop-global.all c.loop-global-test.true c.global-item.is ∙ c.loop-global.invariant in
    search (rules, e)
