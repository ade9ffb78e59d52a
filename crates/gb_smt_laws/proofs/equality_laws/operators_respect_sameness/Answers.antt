use Rattle.gb_smt_laws.proofs.Respects.{scope_respects}
use Rattle.gb_smt_laws.proofs.equality_laws.operators_respect_sameness.Goals as goal

pub returns : goal.returns
returns x = scope_respects
