use Rattle.gb_script.proofs.Unique.{one_front}
use Rattle.gb_script.proofs.derivation_laws.steps_before_are_unique.Goals as goal

pub returns : goal.returns
returns g c = one_front
