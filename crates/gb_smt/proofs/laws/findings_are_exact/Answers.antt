use Rattle.gb_smt.proofs.Findings.{found_exactly}
use Rattle.gb_smt.proofs.laws.findings_are_exact.Goals as goal

pub returns : goal.returns
returns c = found_exactly
