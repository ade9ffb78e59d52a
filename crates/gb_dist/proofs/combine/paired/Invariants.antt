use Rattle.std.proofs.Common.{◌≡◌, ◌++◌, drop}
use Rattle.gb_dist.specs.Operations.{first_overflow}
use Rattle.gb_dist.specs.Lists.{paired}
use Rattle.gb_dist.specs.Rows.{entries, pairing_steps}
use Rattle.gb_dist.proofs.combine.paired.Given as goal

abbrev pub invariant-loop-row : goal.invariant-loop-row
invariant-loop-row l = record {
  rows : entries l.out ++ paired (l.left.value, l.left.weight) (entries (drop l.row-index l.right)) ≡ paired (l.left.value, l.left.weight) (entries l.right);
  steps : first_overflow (pairing_steps l.left.weight (entries (drop l.row-index l.right))) ≡ first_overflow (pairing_steps l.left.weight (entries l.right));
}
