use Rattle.gb_smt_laws.proofs.Components.{one_claim_true}
use Rattle.gb_smt_laws.proofs.leaf_laws.components.Goals as goal

pub returns : goal.returns
returns c = one_claim_true
