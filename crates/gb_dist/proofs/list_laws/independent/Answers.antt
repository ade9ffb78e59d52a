use Rattle.gb_dist.proofs.Distributions.{same_order}
use Rattle.gb_dist.proofs.list_laws.independent.Goals as goal

pub returns : goal.returns
returns g c = λ l r h k. same_order l r h k
