use Rattle.std.proofs.Common.{◌≡◌, ◌<◌, ◌*◌, List, length, ap, arith, refl, ◌≤◌, pos}
use Rattle.std.proofs.lemmas.Nat.{mul-le}
use Rattle.gb_dist.specs.declared.row.Row.{Row}
use Rattle.gb_dist.specs.Lists.{product}
use Rattle.gb_dist.specs.Rows.{entries}
use Rattle.gb_dist.proofs.Steps.{weight_within, finished}
use Rattle.std.proofs.lemmas.Result.{err_from_is_err_and}
use Rattle.gb_dist.specs.Operations.{product_of}
use Rattle.gb_dist.proofs.Pairs.{last_refused, pair_refused, pair_passed, pairs_done, product_step, total_product, positive_product}
use Rattle.gb_dist.proofs.combine.product.Goals as goal

pub paired-requires-clause-left : goal.paired-requires-clause-left
paired-requires-clause-left c =
    let at : c.loop-row.row-index < length c.args.a.now.rows = omega (arith, ap (λ (rs : List Row). length rs) c.as_slice-row-items.ensures) in
    omega (arith, weight_within c.args.a.now.rows c.loop-row.row-index c.row-item.result at (rw c.as_slice-row-items.ensures at c.row-item.is), c.args.a.now.bounded, c.args.a.now.small)

pub returns-in_err-paired : goal.returns-in_err-paired
returns-in_err-paired c =
    let at : c.loop-row.row-index < length c.args.a.now.rows = omega (arith, ap (λ (rs : List Row). length rs) c.as_slice-row-items.ensures) in
    let is = rw c.as_slice-row-items.ensures at c.row-item.is in
    let refused = rw c.as_slice.ensures at c.in_err-paired.ensures in
    let given = err_from_is_err_and c.from_residual.result c.from_residual.ensures.1 in
    rw (given.1, given.2) (pair_refused c.args.a.now.rows (entries c.args.b.now.rows) c.loop-row.row-index c.row-item.result _ _ _ at is c.loop-row.invariant.steps refused)

pub loop-row-preserved : goal.loop-row-preserved
loop-row-preserved c =
    let at : c.loop-row.row-index < length c.args.a.now.rows = omega (arith, ap (λ (rs : List Row). length rs) c.as_slice-row-items.ensures) in
    let is = rw c.as_slice-row-items.ensures at c.row-item.is in
    let given = rw c.as_slice.ensures at c.in_ok-paired.ensures in
    record {
      rows = product_step c.args.a.now.rows c.loop-row.rows _ c.in_ok-paired.field-0 (entries c.args.b.now.rows) c.loop-row.row-index c.row-item.result _ at is c.in_ok-append.ensures given.1 c.loop-row.invariant.rows;
      steps = pair_passed c.args.a.now.rows (entries c.args.b.now.rows) c.loop-row.row-index c.row-item.result _ _ at is c.loop-row.invariant.steps given.0;
    }

pub returns-in_err-total : goal.returns-in_err-total
returns-in_err-total c =
    let done : length c.args.a.now.rows ≤ c.loop-row.row-index = omega (arith, ap (λ (rs : List Row). length rs) c.as_slice-row-items.ensures) in
    let rest = pairs_done c.args.a.now.rows (entries c.args.b.now.rows) c.loop-row.row-index _ _ done c.loop-row.invariant.steps in
    let given = err_from_is_err_and c.from_residual-in_err-total.result c.from_residual-in_err-total.ensures.1 in
    rw (given.1, given.2) (last_refused (product_of (pos c.args.a.now.total) (pos c.args.b.now.total)) _ _ rest c.in_err-total.ensures.gives.0 c.in_err-total.ensures.gives.1)

pub invariant_of-result : goal.invariant_of-result
invariant_of-result c =
    let all : entries c.loop-row.rows ≡ product (entries c.args.a.now.rows) (entries c.args.b.now.rows) =
    finished c.loop-row.rows c.args.a.now.rows c.loop-row.row-index (λ d. product d (entries c.args.b.now.rows)) _ refl (omega (arith, ap (λ (rs : List Row). length rs) c.as_slice-row-items.ensures)) c.loop-row.invariant.rows in
    let whole : c.in_ok-total.total ≡ c.args.a.now.total * c.args.b.now.total = c.in_ok-total.ensures.gives.1 in
    record {
      small = c.in_ok-total.ensures.below;
      bounded = rw (all, total_product (entries c.args.a.now.rows) (entries c.args.b.now.rows), whole) (mul-le _ _ _ _ c.args.a.now.bounded c.args.b.now.bounded);
      positive = rw all (positive_product (entries c.args.a.now.rows) (entries c.args.b.now.rows) c.args.a.now.positive c.args.b.now.positive);
    }
