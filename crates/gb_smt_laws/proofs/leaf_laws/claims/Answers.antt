use Rattle.gb_smt_laws.proofs.LabelledClaims.{closed_claim}
use Rattle.gb_smt_laws.proofs.leaf_laws.claims.Goals as goal

pub returns : goal.returns
returns c = closed_claim
