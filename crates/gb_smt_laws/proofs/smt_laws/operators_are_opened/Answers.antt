use Rattle.gb_smt_laws.proofs.Opened.{opened_operators, opened_known, opened_bound}
use Rattle.gb_smt_laws.proofs.smt_laws.operators_are_opened.Goals as goal

pub returns : goal.returns
returns c = record { comes = opened_operators; known = opened_known; bound = opened_bound }
