use Rattle.gb_laws.proofs.Sizes.{finite_sized, fit_in}
use Rattle.gb_laws.proofs.type_laws.finite_types.Goals as goal

pub returns : goal.returns
returns c = record { sized = finite_sized; fits = fit_in }
