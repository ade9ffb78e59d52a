use Rattle.gb_script.proofs.Unique.{one_fault}
use Rattle.gb_script.proofs.derivation_laws.first_faults_are_unique.Goals as goal

pub returns : goal.returns
returns g c = one_fault
