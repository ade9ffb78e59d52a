use Rattle.std.proofs.Common.{◌≡◌, drop}
use Rattle.gb_smt.specs.Claims.{first_variables}
use Rattle.gb_smt.proofs.claims.first_variables.Given as goal

abbrev pub invariant-loop-hyp : goal.invariant-loop-hyp
invariant-loop-hyp l = first_variables (drop l.hyp-index l.hyps) ≡ first_variables l.hyps
