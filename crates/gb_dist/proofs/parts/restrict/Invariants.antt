use Rattle.std.proofs.Common.{◌≡◌, ◌++◌, drop}
use Rattle.gb_dist.specs.Lists.{kept}
use Rattle.gb_dist.specs.Rows.{entries}
use Rattle.gb_dist.proofs.parts.restrict.Given as goal

abbrev pub invariant-loop-at : goal.invariant-loop-at
invariant-loop-at l = entries l.out ++ kept (drop l.at l.event) (entries (drop l.at l.d.rows)) ≡ kept l.event (entries l.d.rows)
