use Rattle.gb_prog.proofs.Straight.{straight_run, straight_denominator, after_branch, after_append}
use Rattle.gb_prog.proofs.straight_laws.straight.Goals as goal

pub returns : goal.returns
returns x = record { run = straight_run; denominator = straight_denominator; branch = after_branch; sequence = after_append }
