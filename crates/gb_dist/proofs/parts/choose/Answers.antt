use Rattle.std.proofs.Common.{◌≡◌, ◌<◌, List, length, ap, arith, refl, ◌*◌}
use Rattle.gb_dist.specs.WeightedList.{scale}
use Rattle.gb_dist.specs.declared.row.Row.{Row}
use Rattle.gb_dist.specs.Rows.{entries}
use Rattle.gb_dist.proofs.Steps.{weight_within, positive_scale, total_scale, finished, scaled_bound}
use Rattle.gb_dist.proofs.parts.choose.Goals as goal

pub times-requires-clause-left : goal.times-requires-clause-left
times-requires-clause-left c =
    let at : c.loop-row.row-index < length c.args.chosen.now.rows = omega (arith, ap (λ (rs : List Row). length rs) c.as_slice-row-items.ensures) in
    omega (arith, weight_within c.args.chosen.now.rows c.loop-row.row-index c.row-item.result at (rw c.as_slice-row-items.ensures at c.row-item.is), c.args.chosen.now.bounded, c.args.chosen.now.small)

pub invariant_of-result : goal.invariant_of-result
invariant_of-result c =
    let all : entries c.loop-row.rows ≡ scale c.args.other (entries c.args.chosen.now.rows) =
    finished c.loop-row.rows c.args.chosen.now.rows c.loop-row.row-index (scale c.args.other) _ refl (omega (arith, ap (λ (rs : List Row). length rs) c.as_slice-row-items.ensures)) c.loop-row.invariant.rows in
    let whole : c.in_ok-total.total ≡ c.args.chosen.now.total * c.args.other = c.in_ok-total.ensures.gives.1 in
    record {
      small = c.in_ok-total.ensures.below;
      bounded = rw (all, total_scale c.args.other (entries c.args.chosen.now.rows)) (scaled_bound _ _ _ _ c.args.chosen.now.bounded whole);
      positive = rw all (positive_scale c.args.other (entries c.args.chosen.now.rows) c.requires.above c.args.chosen.now.positive);
    }
