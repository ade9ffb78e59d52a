use Rattle.std.proofs.Common.{refl}
use Rattle.gb_meaning.proofs.holding_examples.abstract_footprint.Goals as goal

pub returns : goal.returns
returns c = refl
