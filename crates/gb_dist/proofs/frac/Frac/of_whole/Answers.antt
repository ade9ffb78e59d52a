use Rattle.std.specs.Int.{w128}
use Rattle.std.proofs.Common.{rules}
use Rattle.std.proofs.lemmas.Int.{to_z-of_z}
use Rattle.gb_dist.proofs.Lowest.{IsBounded-of_whole}
use Rattle.gb_dist.proofs.frac.Frac.of_whole.Goals as goal

pub invariant_of-result : goal.invariant_of-result
invariant_of-result c = rw (to_z-of_z w128 _ c.ranges.number) (search rules, IsBounded-of_whole c.args.number c.requires)
