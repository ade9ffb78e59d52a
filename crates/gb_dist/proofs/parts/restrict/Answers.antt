use Rattle.std.proofs.Common.{◌≡◌, ◌<◌, List, length, ap, arith, false}
use Rattle.gb_core.specs.declared.value.Value.{Value}
use Rattle.gb_dist.specs.declared.row.Row.{Row}
use Rattle.gb_dist.specs.Lists.{kept}
use Rattle.gb_dist.specs.Rows.{entries}
use Rattle.gb_dist.proofs.Steps.{keep_step, kept_false, kept_all, total_kept, positive_kept}
use Rattle.gb_dist.proofs.parts.restrict.Goals.{then-event-at+in_ok-share+in_ok-push, else-event-at}
use Rattle.gb_dist.proofs.parts.restrict.Goals as goal

pub loop-at-preserved : goal.loop-at-preserved
loop-at-preserved c =
    let at : c.loop-at.at < length c.args.d.now.rows = omega (arith, ap (λ (rs : List Row). length rs) c.as_slice-rows.ensures) in
    let within : c.loop-at.at < length c.args.event.now = omega arith in
    let is = rw c.as_slice-rows.ensures at c.index-rows-at.is in
    elim c.if-event-at.branch [
      | then-event-at+in_ok-share+in_ok-push w ↦
          rw w.out-is (keep_step c.args.event.now c.args.d.now.rows c.loop-at.out _ c.loop-at.at c.index-rows-at.result _ _ within at w.if-event-at.true is w.in_ok-push.ensures.ok (ap (λ (v : Value). (v, c.index-rows-at.result.weight)) w.in_ok-share.ensures) c.loop-at.invariant)
      | else-event-at w ↦
          rw (w.out-is, ← kept_false c.args.event.now c.args.d.now.rows c.loop-at.at false c.index-rows-at.result within at w.if-event-at.false) c.loop-at.invariant
    ]

pub invariant_of-result : goal.invariant_of-result
invariant_of-result c =
    let all : entries c.loop-at.out ≡ kept c.args.event.now (entries c.args.d.now.rows) =
    kept_all c.loop-at.out c.args.d.now.rows c.loop-at.at c.args.event.now _ (omega (arith, ap (λ (rs : List Row). length rs) c.as_slice-rows.ensures)) c.loop-at.invariant in
    record {
      small = c.args.d.now.small;
      bounded = rw all (omega (arith, total_kept c.args.event.now (entries c.args.d.now.rows), c.args.d.now.bounded));
      positive = rw all (positive_kept c.args.event.now (entries c.args.d.now.rows) c.args.d.now.positive);
    }
