use Rattle.gb_laws.proofs.Fair.{memory_discrete}
use Rattle.gb_elab_laws.proofs.Promised.{couplings}
use Rattle.gb_elab_laws.proofs.promise_laws.equivalences_give_couplings.Goals as goal

pub returns : goal.returns
returns c = record { coupled = couplings; told_apart = memory_discrete }
