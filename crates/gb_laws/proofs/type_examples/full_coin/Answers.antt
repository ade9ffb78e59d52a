use Rattle.std.proofs.Common.{refl}
use Rattle.gb_laws.proofs.type_examples.full_coin.Goals as goal

pub returns : goal.returns
returns x = record { coin = λ g. (tt, tt); operator = λ g n k. k.0 refl }
