use Rattle.std.specs.Int.{w128}
use Rattle.std.proofs.lemmas.Int.{to_z-of_z}
use Rattle.gb_dist.proofs.Sizes.{checked}
use Rattle.gb_dist.specs.Operations.{sum_of}
use Rattle.gb_dist.proofs.whole.sum.Goals as goal

pub returns : goal.returns
returns c =
    let left = to_z-of_z w128 c.args.left c.ranges.left in
    let right = to_z-of_z w128 c.args.right c.ranges.right in
    checked (sum_of c.args.left c.args.right) _ _ (rw (left, right) at c.checked_add.ensures) (rw (left, right) at c.small_or.ensures)
