use Rattle.gb_laws.proofs.Denominators.{denominator_one}
use Rattle.gb_laws.proofs.type_laws.denominators.Goals as goal

pub returns : goal.returns
returns f = λ c g t w k. denominator_one g c t w k
