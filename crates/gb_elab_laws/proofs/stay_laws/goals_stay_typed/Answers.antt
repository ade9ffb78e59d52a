use Rattle.gb_elab_laws.proofs.GrowingGoals.{stays_typed}
use Rattle.gb_elab_laws.proofs.stay_laws.goals_stay_typed.Goals as goal

pub returns : goal.returns
returns c = stays_typed
