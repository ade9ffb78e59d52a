use Rattle.gb_meaning.proofs.Endings.{good_of_falling}
use Rattle.gb_meaning.proofs.run_laws.loops.Goals as goal

pub returns : goal.returns
returns c = good_of_falling
