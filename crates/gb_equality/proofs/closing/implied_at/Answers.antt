use Rattle.std.proofs.Common.{below_more}
use Rattle.gb_equality.specs.Table.{IsJoining, IsSettledPair}
use Rattle.gb_equality.proofs.Places.{if_none}
use Rattle.gb_equality.proofs.closing.implied_at.Goals as goal

pub loop-before-preserved : goal.loop-before-preserved
loop-before-preserved c =
    below_more (λ j. IsSettledPair c.args.nodes.now c.args.labels.now j c.args.at) c.loop-before.before c.loop-before.invariant
    (if_none c.implied_by_pair.result (IsSettledPair c.args.nodes.now c.args.labels.now c.loop-before.before c.args.at) (IsJoining c.args.nodes.now c.args.labels.now) c.implied_by_pair.ensures c.in_default.not-Some)
