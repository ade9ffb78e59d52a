use Rattle.gb_rewrite.specs.Unfolded.{unfolded}
use Rattle.gb_rewrite.proofs.Loops.{mapped, all_mapped}
use Rattle.gb_rewrite.proofs.unfolded.+unfolded.Goals as goal

pub all_unfolded-loop-t-preserved : goal.all_unfolded-loop-t-preserved
all_unfolded-loop-t-preserved t c =
    mapped (unfolded c.args.name.now c.args.body.now) c.args.list.now c.loop-t.t-index c.t-item.result c.loop-t.made c.push.new.self c.in_ok-t.t
    c.loop-t-test.true c.t-item.is c.loop-t.invariant c.in_ok-t.ensures c.in_ok-push.ensures.ok

pub all_unfolded-returns : goal.all_unfolded-returns
all_unfolded-returns t c = all_mapped (unfolded c.args.name.now c.args.body.now) c.args.list.now c.loop-t.t-index c.loop-t.made c.loop-t-test.false c.loop-t.invariant
