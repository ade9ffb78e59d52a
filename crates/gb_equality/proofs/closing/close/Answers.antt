use Rattle.gb_equality.proofs.Narrowed.{none_before}
use Rattle.gb_equality.proofs.closing.close.Goals as goal

pub returns-in-Clash : goal.returns-in-Clash
returns-in-Clash c = none_before c.args.nodes.now c.args.labels.now c.closing.labels c.closing.invariant c.in-Clash.ensures
