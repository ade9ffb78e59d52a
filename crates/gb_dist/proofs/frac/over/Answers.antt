use Rattle.std.proofs.Common.{FitsSigned, rules}
use Rattle.std.specs.Int.{w128}
use Rattle.std.proofs.lemmas.Int.{to_z-of_z}
use Rattle.gb_dist.proofs.Lowest.{positive_product}
use Rattle.gb_dist.proofs.frac.over.Goals as goal

pub reduced-requires-clause-den : goal.reduced-requires-clause-den
reduced-requires-clause-den c =
    let left = to_z-of_z w128 c.args.left c.ranges.left in
    let right = to_z-of_z w128 c.args.right c.ranges.right in
    let d = rw (left, right) at c.in_ok-den.ensures in
    let fits : FitsSigned w128 c.in_ok-den.den = search rules in
    rw (to_z-of_z w128 _ fits, d.1) (positive_product c.args.left c.args.right c.requires.left c.requires.right)
