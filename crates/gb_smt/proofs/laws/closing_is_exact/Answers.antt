use Rattle.gb_smt.proofs.Answered.{closed_exactly}
use Rattle.gb_smt.proofs.laws.closing_is_exact.Goals as goal

pub returns : goal.returns
returns c = closed_exactly
