use Rattle.std.proofs.Common.{arith}
use Rattle.gb_dist.proofs.Steps.{weight_within}
use Rattle.gb_dist.proofs.combine.paired.Goals as goal

pub times-requires-clause-right : goal.times-requires-clause-right
times-requires-clause-right c = omega (arith, weight_within c.args.right.now c.loop-row.row-index c.row-item.result c.loop-row-test.true c.row-item.is, c.requires.right)
