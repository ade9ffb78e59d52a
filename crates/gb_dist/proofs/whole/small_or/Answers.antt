use Rattle.std.proofs.Common.{FitsSigned, rules}
use Rattle.std.specs.Int.{w128}
use Rattle.std.proofs.lemmas.Int.{to_z-of_z}
use Rattle.gb_dist.proofs.Sizes.{kept, not_kept, small_of_fits, large_of_least}
use Rattle.gb_dist.proofs.whole.small_or.Goals as goal

pub returns-in-Some : goal.returns-in-Some
returns-in-Some c =
    let fits : FitsSigned w128 c.in-Some.number = search rules in
    rw (to_z-of_z w128 _ fits) (kept _ _ _ _ c.in-Some.is (small_of_fits _ fits c.if-number.true))

pub returns-in_default : goal.returns-in_default
returns-in_default c =
    let fits : FitsSigned w128 c.in-Some.number = search rules in
    rw (to_z-of_z w128 _ c.ranges.left, to_z-of_z w128 _ c.ranges.right) (not_kept _ _ _ _ c.in-Some.is (large_of_least _ fits c.if-number.false))
