use Rattle.gb_laws.proofs.AlikeCoins.{coins_alike, given_coupling, pairs_of_coins, written_out}
use Rattle.gb_laws.proofs.truth_examples.coupling_of_coins.Goals as goal

pub returns : goal.returns
returns c = record { truth = coins_alike; given = given_coupling; pairs = λ g j s m n c. pairs_of_coins g j s m n c; written_out = λ g j s m n. written_out g j s m n }
