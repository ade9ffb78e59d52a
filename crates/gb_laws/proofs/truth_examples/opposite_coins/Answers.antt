use Rattle.gb_laws.proofs.Coins.{coins}
use Rattle.gb_laws.proofs.truth_examples.opposite_coins.Goals as goal

pub returns : goal.returns
returns c = coins
