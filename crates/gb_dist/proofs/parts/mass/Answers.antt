use Rattle.std.proofs.Common.{◌<◌, List, length, ap, arith, false}
use Rattle.gb_dist.specs.declared.row.Row.{Row}
use Rattle.gb_dist.proofs.Steps.{add_step, kept_false, weigh_step}
use Rattle.gb_dist.proofs.parts.mass.Goals.{then-event-at, else-event-at}
use Rattle.gb_dist.proofs.parts.mass.Goals as goal

pub loop-at-preserved : goal.loop-at-preserved
loop-at-preserved c =
    let at : c.loop-at.at < length c.args.t.now.rows = omega (arith, ap (λ (rs : List Row). length rs) c.as_slice-rows.ensures) in
    let within : c.loop-at.at < length c.args.event.now = omega arith in
    let is = rw c.as_slice-rows.ensures at c.index-rows-at.is in
    let weigh = weigh_step c.args.t.now.rows c.loop-at.at c.index-rows-at.result at is in
    elim c.if-event-at.branch [
      | then-event-at w ↦
          rw w.sum-is (record {
            within = omega (arith, weigh, c.loop-at.invariant.within);
            value = add_step c.args.event.now c.args.t.now.rows c.loop-at.at c.loop-at.sum c.index-rows-at.result _ within at w.if-event-at.true is c.loop-at.invariant.value;
          })
      | else-event-at w ↦
          rw w.sum-is (record {
            within = omega (arith, weigh, c.loop-at.invariant.within);
            value = rw (← kept_false c.args.event.now c.args.t.now.rows c.loop-at.at false c.index-rows-at.result within at w.if-event-at.false) c.loop-at.invariant.value;
          })
    ]
