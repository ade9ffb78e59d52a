use Rattle.std.proofs.Common.{rules, arith}
use Rattle.gb_pr.proofs.StartedSteps.{all_given}
use Rattle.gb_pr.proofs.started.given_for.Goals as goal

pub returns : goal.returns
returns c =
    let e = all_given c.args.side c.args.params.now c.args.arguments.now c.loop-i.i (λ a b. omega (arith, a, b, c.min-i-end.ensures, c.loop-i-test.false)) in
    search (rules, e, c.loop-i.invariant)
