use Rattle.std.proofs.Common.{◌≡◌, List, ◌∙◌, ap, arith}
use Rattle.gb_dist.specs.declared.row.Row.{Row}
use Rattle.gb_dist.specs.Lists.{imaged, is_positive}
use Rattle.gb_dist.specs.Rows.{entries}
use Rattle.gb_dist.proofs.Gathering.{positive_imaged, total_imaged}
use Rattle.gb_dist.specs.WeightedList.{WeightedList, total}
use Rattle.gb_core.specs.declared.value.Value.{Value}
use Rattle.gb_eval.proofs.making.imaged.Goals as goal

pub invariant_of-result : goal.invariant_of-result
invariant_of-result c =
    let e : entries c.in_ok-rows.rows ≡ imaged c.args.images.now (entries c.args.table.now.rows) =
    c.in_ok-rows.ensures ∙ ap (λ (rs : List Row). imaged c.args.images.now (entries rs)) c.as_slice.ensures in
    record {
      small = c.args.table.now.small;
      bounded = omega (arith, ap (λ (l : WeightedList Value). total l) e, total_imaged c.args.images.now (entries c.args.table.now.rows), c.args.table.now.bounded);
      positive = ap is_positive e ∙ positive_imaged c.args.images.now (entries c.args.table.now.rows) c.args.table.now.positive;
    }
