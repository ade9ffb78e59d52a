use Rattle.gb_theory.proofs.Refused.{proof_refused, qed_refused}
use Rattle.gb_theory.proofs.examples.no_proof_is_open.Goals as goal

pub returns-clause-proof : goal.returns-clause-proof
returns-clause-proof c = proof_refused

pub returns-clause-qed : goal.returns-clause-qed
returns-clause-qed c = qed_refused
