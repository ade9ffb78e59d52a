use Rattle.std.proofs.Common.{FitsSigned, rules}
use Rattle.std.specs.Int.{w128}
use Rattle.std.proofs.lemmas.Int.{to_z-of_z}
use Rattle.gb_dist.proofs.Lowest.{IsBounded-absolute}
use Rattle.gb_dist.proofs.frac.abs.Goals as goal

pub invariant_of-result : goal.invariant_of-result
invariant_of-result c =
    let den : FitsSigned w128 c.a.inside.den = search rules in
    let num : FitsSigned w128 c.a.inside.num = search rules in
    let result : FitsSigned w128 c.abs.result = search rules in
    rw (to_z-of_z w128 _ den, to_z-of_z w128 _ result, rw (to_z-of_z w128 _ num) at c.abs.ensures.value) (c.a.invariant.0, IsBounded-absolute _ c.a.invariant.1)
