use Rattle.std.proofs.Common.{refl}
use Rattle.gb_laws.proofs.type_examples.operators.Goals as goal

pub returns : goal.returns
returns x = record { conjunction = λ c. ((refl, (refl, (refl, tt))), (((tt, refl), tt), ((tt, refl), tt))); sum = λ c w. w.0.0 }
