use Rattle.gb_dist.proofs.Existence.{has_coupling-true, has_coupling_of_coupling}
use Rattle.gb_dist.proofs.existence_laws.existence_test.Goals as goal

pub returns : goal.returns
returns g c = λ d r l1 k1 l2 k2 h1 h2. (has_coupling-true d r l1 k1 l2 k2 h1 h2, has_coupling_of_coupling d r l1 k1 l2 k2 h1 h2)
