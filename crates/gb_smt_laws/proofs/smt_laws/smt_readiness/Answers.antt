use Rattle.gb_smt_laws.proofs.Typed.{smt_is_ready}
use Rattle.gb_smt_laws.proofs.smt_laws.smt_readiness.Goals as goal

pub returns : goal.returns
returns c = smt_is_ready
