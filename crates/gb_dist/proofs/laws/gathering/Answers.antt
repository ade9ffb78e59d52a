use Rattle.std.proofs.Common.{ap, ◌*◌}
use Rattle.gb_dist.specs.WeightedList.{indicator}
use Rattle.gb_dist.proofs.laws.gathering.Goals as goal

pub returns-clause-same : goal.returns-clause-same
returns-clause-same c ty l rs n h f = ap (λ m. m * n) (h.same f)

pub returns-clause-weight : goal.returns-clause-weight
returns-clause-weight c ty l rs d v h = h.same (indicator d v)
