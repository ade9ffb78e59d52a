use Rattle.std.proofs.Common.{◌≡◌, ◌+◌, ◌-◌, suc, arith}
use Rattle.gb_script.proofs.Stacks.{taken_more, dropped_more}
use Rattle.gb_script.proofs.build.take_off.Goals as goal

pub loop-i-preserved : goal.loop-i-preserved
loop-i-preserved c =
    let m : c.args.count - c.loop-i._i ≡ suc (c.args.count - (c.loop-i._i + 1)) = omega arith in
    record {
      taken = taken_more c.loop-i.taken c.push.new.self c.loop-i.stack c.pop.new.self _ c.in-Some.value _ _ c.in-Some.ensures c.in_ok-push-in-Some.ensures.ok m c.loop-i.invariant.taken;
      dropped = dropped_more c.loop-i.stack c.pop.new.self _ c.in-Some.value _ _ c.in-Some.ensures m c.loop-i.invariant.dropped;
    }
