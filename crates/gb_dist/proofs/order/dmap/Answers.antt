use Rattle.std.proofs.Common.{◌≡◌, List, sym, subst, ◌∙◌, ap, arith}
use Rattle.gb_core.specs.declared.value.Value.{Value}
use Rattle.gb_dist.specs.WeightedList.{WeightedList, total}
use Rattle.gb_dist.specs.declared.row.Row.{Row}
use Rattle.gb_dist.specs.Lists.{imaged, is_positive}
use Rattle.gb_dist.specs.Places.{ArePlaced, outcomes}
use Rattle.gb_dist.specs.Rows.{entries}
use Rattle.gb_dist.proofs.Gathering.{placed_imaged, positive_imaged, total_imaged}
use Rattle.gb_dist.proofs.order.dmap.Goals as goal

pub gathered-requires-clause-placed : goal.gathered-requires-clause-placed
gathered-requires-clause-placed c =
    let e : entries c.as_slice-2.result.now ≡ imaged c.args.images.now (entries c.args.d.now.rows) = ap (λ (rs : List Row). entries rs) c.as_slice-2.ensures ∙ c.in_ok-rows.ensures ∙ ap (λ (rs : List Row). imaged c.args.images.now (entries rs)) c.as_slice.ensures in
    subst (λ (l : WeightedList Value). ArePlaced c.args.ty.now (outcomes l)) (sym e) (placed_imaged c.args.ty.now c.args.images.now (entries c.args.d.now.rows) c.requires.placed)

pub gathered-requires-clause-positive : goal.gathered-requires-clause-positive
gathered-requires-clause-positive c =
    let e : entries c.as_slice-2.result.now ≡ imaged c.args.images.now (entries c.args.d.now.rows) = ap (λ (rs : List Row). entries rs) c.as_slice-2.ensures ∙ c.in_ok-rows.ensures ∙ ap (λ (rs : List Row). imaged c.args.images.now (entries rs)) c.as_slice.ensures in
    ap is_positive e ∙ positive_imaged c.args.images.now (entries c.args.d.now.rows) c.args.d.now.positive

pub gathered-requires-clause-small : goal.gathered-requires-clause-small
gathered-requires-clause-small c =
    let e : entries c.as_slice-2.result.now ≡ imaged c.args.images.now (entries c.args.d.now.rows) = ap (λ (rs : List Row). entries rs) c.as_slice-2.ensures ∙ c.in_ok-rows.ensures ∙ ap (λ (rs : List Row). imaged c.args.images.now (entries rs)) c.as_slice.ensures in
    omega (arith, ap (λ (l : WeightedList Value). total l) e, total_imaged c.args.images.now (entries c.args.d.now.rows), c.args.d.now.bounded, c.args.d.now.small)

pub invariant_of-result : goal.invariant_of-result
invariant_of-result c =
    let e : entries c.as_slice-2.result.now ≡ imaged c.args.images.now (entries c.args.d.now.rows) = ap (λ (rs : List Row). entries rs) c.as_slice-2.ensures ∙ c.in_ok-rows.ensures ∙ ap (λ (rs : List Row). imaged c.args.images.now (entries rs)) c.as_slice.ensures in
    record {
      small = c.args.d.now.small;
      bounded = omega (arith, c.in_ok-rows-2.ensures.same (λ v. 1), ap (λ (l : WeightedList Value). total l) e, total_imaged c.args.images.now (entries c.args.d.now.rows), c.args.d.now.bounded);
      positive = c.in_ok-rows-2.ensures.positive;
    }
