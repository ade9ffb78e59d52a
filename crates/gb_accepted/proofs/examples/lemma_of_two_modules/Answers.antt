use Rattle.gb_meaning.proofs.TwoCoins.{coins_hold}
use Rattle.gb_accepted.proofs.examples.lemma_of_two_modules.Goals as goal

pub returns : goal.returns
returns c = coins_hold
