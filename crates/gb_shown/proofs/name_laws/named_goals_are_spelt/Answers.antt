use Rattle.gb_shown.proofs.NamedGoals.{sequent_spelt}
use Rattle.gb_shown.proofs.name_laws.named_goals_are_spelt.Goals as goal

pub returns : goal.returns
returns c = sequent_spelt
