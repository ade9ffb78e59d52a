use Rattle.std.proofs.Common.{refl}
use Rattle.gb_laws.proofs.Drawn.{typed_distribution, typed_full}
use Rattle.gb_laws.proofs.type_laws.distributions.Goals as goal

pub returns : goal.returns
returns f = record { weights = λ c g i t w d. typed_distribution c g i t c refl w d; full = λ c g i t w u k d. typed_full c g i t w u k d }
