use Rattle.gb_elab.proofs.OfWantedType.{elaborated_type}
use Rattle.gb_elab.proofs.laws.wanted_types.Goals as goal

pub returns : goal.returns
returns c = elaborated_type
