use Rattle.std.proofs.Common.{FitsSigned, ◌≡◌, rules}
use Rattle.std.proofs.Math.Nat.{mul-pos}
use Rattle.gb_dist.specs.Fractions.{over, reduced}
use Rattle.gb_dist.specs.Operations.{over_steps, outcome}
use Rattle.gb_dist.proofs.Lowest.{same_of_exact, size_of_positive}
use Rattle.gb_dist.proofs.Sizes.{small}
use Rattle.std.specs.Int.{w128}
use Rattle.std.proofs.lemmas.Int.{to_z-of_z}
use Rattle.gb_dist.proofs.frac.div_lit.Goals as goal

pub returns-clause-same : goal.returns-clause-same
returns-clause-same c =
    let exact : c.over.result ≡ outcome (over_steps c.args.a c.args.n) (reduced (over c.args.a c.args.n)) = search rules in
    same_of_exact (over_steps c.args.a c.args.n) (over c.args.a c.args.n) c.over.result (mul-pos c.den.ensures.bounded.lowest.above (size_of_positive c.args.n c.requires)) exact

pub over-requires-clause-num : goal.over-requires-clause-num
over-requires-clause-num c =
    let fits : FitsSigned w128 c.num.result = search rules in
    rw (to_z-of_z w128 _ fits, c.num.ensures.value) (small c.args.a.0 c.num.ensures.bounded.num)
