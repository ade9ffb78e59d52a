use Rattle.gb_dist.proofs.Lowest.{IsSame-reduced, IsLowest-reduced, num_of_reduced, den_of_reduced, same_lowest, reduced_lowest}
use Rattle.gb_dist.proofs.number_laws.lowest_terms.Goals as goal

pub returns-clause-same : goal.returns-clause-same
returns-clause-same c = IsSame-reduced

pub returns-clause-lowest : goal.returns-clause-lowest
returns-clause-lowest c = IsLowest-reduced

pub returns-clause-num : goal.returns-clause-num
returns-clause-num c = num_of_reduced

pub returns-clause-den : goal.returns-clause-den
returns-clause-den c = den_of_reduced

pub returns-clause-unique : goal.returns-clause-unique
returns-clause-unique c = same_lowest

pub returns-clause-itself : goal.returns-clause-itself
returns-clause-itself c = reduced_lowest
