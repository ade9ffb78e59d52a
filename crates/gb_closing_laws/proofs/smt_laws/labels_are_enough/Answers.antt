use Rattle.gb_closing_laws.proofs.SmtIsSound.{claims_are_true}
use Rattle.gb_closing_laws.proofs.smt_laws.labels_are_enough.Goals as goal

pub returns : goal.returns
returns c = λ ds scope q t g fits bodies off i fair hyps f forms form closes. claims_are_true ds scope q t g fits bodies off i fair hyps f forms form closes
