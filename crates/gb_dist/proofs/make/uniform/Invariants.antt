use Rattle.std.proofs.Common.{◌≡◌}
use Rattle.gb_core.specs.Types.{numbering}
use Rattle.gb_dist.specs.Lists.{values_below}
use Rattle.gb_dist.specs.Rows.{entries}
use Rattle.gb_dist.proofs.make.uniform.Given as goal

abbrev pub invariant-loop-at : goal.invariant-loop-at
invariant-loop-at l = entries l.rows ≡ values_below (numbering l.ty) l.at
