use Rattle.gb_arguments.proofs.Apart.{are_apart}
use Rattle.gb_arguments.proofs.fit_laws.apart.Goals as goal

pub returns : goal.returns
returns c = λ ds g kept vs ys p e xs zs w k. are_apart ds g kept vs ys p e xs zs w k
