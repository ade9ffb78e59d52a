use Rattle.gb_shown.proofs.Applied.{applied_keep}
use Rattle.gb_shown.proofs.name_laws.steps.Goals as goal

pub returns : goal.returns
returns c = applied_keep
