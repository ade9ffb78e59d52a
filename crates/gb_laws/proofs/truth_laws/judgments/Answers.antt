use Rattle.gb_meaning.proofs.Truths.{true_hoare, true_phoare, true_equiv}
use Rattle.gb_laws.proofs.truth_laws.judgments.Goals as goal

pub returns : goal.returns
returns c = record { hoare = true_hoare; phoare = true_phoare; equiv = true_equiv }
