use Rattle.gb_eval.proofs.Operated.{operators_sound}
use Rattle.gb_eval.proofs.laws.operators_are_bodies.Goals as goal

pub returns : goal.returns
returns c = operators_sound
