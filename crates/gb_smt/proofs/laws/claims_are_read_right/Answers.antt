use Rattle.gb_smt.proofs.Meant.{claim_holds, claim_fails}
use Rattle.gb_smt.proofs.laws.claims_are_read_right.Goals as goal

pub returns : goal.returns
returns c = record { holds = claim_holds; fails = claim_fails }
