use Rattle.gb_equality.proofs.Narrowed.{swept_end}
use Rattle.gb_equality.proofs.closing.sweep.Goals as goal

pub loop-at-preserved : goal.loop-at-preserved
loop-at-preserved c = record {
  swept = c.sweep_row-outcome.ensures.swept c.args.labels.now c.loop-at.invariant.swept;
  no_clash = c.in_default.not-Clash;
}

pub returns : goal.returns
returns c = swept_end c.args.nodes.now c.args.labels.now c.loop-at.labels c.loop-at.at c.loop-at.outcome c.loop-at-test.false c.loop-at.invariant.swept
