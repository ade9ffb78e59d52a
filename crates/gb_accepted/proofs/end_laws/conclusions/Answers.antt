use Rattle.gb_accepted.proofs.ConclusionsEnd.{conclusions_end}
use Rattle.gb_accepted.proofs.UsesEnd.{uses_end}
use Rattle.gb_accepted.proofs.end_laws.conclusions.Goals as goal

pub returns : goal.returns
returns x = record { steps = conclusions_end; uses = uses_end }
