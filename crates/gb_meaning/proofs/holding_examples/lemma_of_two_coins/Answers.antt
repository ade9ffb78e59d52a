use Rattle.gb_meaning.proofs.TwoCoins.{coins_hold}
use Rattle.gb_meaning.proofs.holding_examples.lemma_of_two_coins.Goals as goal

pub returns : goal.returns
returns c = coins_hold
