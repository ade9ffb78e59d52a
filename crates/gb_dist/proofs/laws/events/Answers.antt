use Rattle.gb_dist.proofs.Events.{kept_is, kept_mass}
use Rattle.gb_dist.proofs.laws.events.Goals as goal

pub returns-clause-kept : goal.returns-clause-kept
returns-clause-kept c = kept_is

pub returns-clause-mass : goal.returns-clause-mass
returns-clause-mass c = kept_mass
