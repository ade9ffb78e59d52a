use Rattle.gb_laws.proofs.Constructors.{option_is, distribution_is, map_is, tuple_is}
use Rattle.gb_laws.proofs.type_laws.constructors.Goals as goal

pub returns : goal.returns
returns x = record { option = option_is; distribution = distribution_is; map = map_is; tuple = tuple_is }
