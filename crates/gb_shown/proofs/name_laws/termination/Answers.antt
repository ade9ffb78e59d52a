use Rattle.gb_shown.proofs.Variants.{termination_named}
use Rattle.gb_shown.proofs.name_laws.termination.Goals as goal

pub returns : goal.returns
returns c = termination_named
