use Rattle.std.proofs.Common.{◌≡◌, rules}
use Rattle.std.proofs.Math.Nat.{mul-pos}
use Rattle.gb_dist.specs.Fractions.{minus, reduced}
use Rattle.gb_dist.specs.Operations.{minus_steps, outcome}
use Rattle.gb_dist.proofs.Lowest.{same_of_exact}
use Rattle.gb_dist.proofs.frac.sub.Goals as goal

pub returns-clause-same : goal.returns-clause-same
returns-clause-same c =
    let exact : c.over.result ≡ outcome (minus_steps c.args.a c.args.b) (reduced (minus c.args.a c.args.b)) = search rules in
    same_of_exact (minus_steps c.args.a c.args.b) (minus c.args.a c.args.b) c.over.result (mul-pos c.den-3.ensures.bounded.lowest.above c.den-4.ensures.bounded.lowest.above) exact

pub returns-clause-exact : goal.returns-clause-exact
returns-clause-exact c = search rules

pub returns-in_err-num-clause-exact : goal.returns-in_err-num-clause-exact
returns-in_err-num-clause-exact c = search rules
