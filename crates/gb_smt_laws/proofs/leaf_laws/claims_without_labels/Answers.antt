use Rattle.gb_smt_laws.proofs.LabelledClaims.{closed_without}
use Rattle.gb_smt_laws.proofs.leaf_laws.claims_without_labels.Goals as goal

pub returns : goal.returns
returns c = closed_without
