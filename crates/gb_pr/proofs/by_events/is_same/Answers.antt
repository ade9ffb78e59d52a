use Rattle.gb_pr.proofs.SameStarts.{same_is}
use Rattle.gb_pr.proofs.by_events.is_same.Goals as goal

pub returns : goal.returns
returns c = same_is c.args.a.now c.args.b.now c.same.result c.same.ensures
