use Rattle.std.proofs.Common.{◌≡◌, rules}
use Rattle.std.proofs.Math.Nat.{mul-pos}
use Rattle.gb_dist.specs.Fractions.{times, reduced}
use Rattle.gb_dist.specs.Operations.{times_steps, outcome}
use Rattle.gb_dist.proofs.Lowest.{same_of_exact}
use Rattle.gb_dist.proofs.frac.mul.Goals as goal

pub returns-clause-same : goal.returns-clause-same
returns-clause-same c =
    let exact : c.over.result ≡ outcome (times_steps c.args.a c.args.b) (reduced (times c.args.a c.args.b)) = search rules in
    same_of_exact (times_steps c.args.a c.args.b) (times c.args.a c.args.b) c.over.result (mul-pos c.den.ensures.bounded.lowest.above c.den-2.ensures.bounded.lowest.above) exact
