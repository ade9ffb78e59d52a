use Rattle.gb_accepted.proofs.LiftedEnd.{by_loop_rule}
use Rattle.gb_accepted.proofs.end_laws.sequents.Goals as goal

pub returns : goal.returns
returns x = λ ds scope q t truth ls rs w row law qs e. by_loop_rule ds scope q t truth ls rs w row law qs e
