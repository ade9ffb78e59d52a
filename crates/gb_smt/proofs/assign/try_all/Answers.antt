use Rattle.gb_smt.proofs.Findings.{decided_there}
use Rattle.gb_smt.proofs.assign.try_all.Goals as goal

pub returns-in_default : goal.returns-in_default
returns-in_default c =
    decided_there c.args.scope.now c.args.claim.now c.loop-at.at c.in_ok-decided.decided c.loop-at.invariant.before c.in_ok-decided.ensures.found c.in-Exact.n c.loop-at.invariant.exact c.loop-at-test.true c.in_default.not-True
