use Rattle.gb_dist.proofs.Distributions.{same_of_equality, coupling_equality}
use Rattle.gb_dist.proofs.coupling_laws.equality.Goals as goal

pub returns : goal.returns
returns g c = λ l1 k1 l2 k2 h1 o. (λ d. same_of_equality d, λ e. coupling_equality l1 k1 l2 k2 h1 o e)
