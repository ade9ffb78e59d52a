use Rattle.std.proofs.Common.{◌≡◌, arith}
use Rattle.gb_core.specs.Types.{numbering}
use Rattle.gb_dist.specs.Lists.{values_below}
use Rattle.gb_dist.specs.Rows.{entries}
use Rattle.gb_dist.proofs.Steps.{total_values, positive_values}
use Rattle.gb_dist.proofs.make.uniform.Goals as goal

pub invariant_of-result : goal.invariant_of-result
invariant_of-result c =
    let all : entries c.loop-at.rows ≡ values_below (numbering c.args.ty.now) c.loop-at.at = c.loop-at.invariant in
    record {
      small = omega arith;
      bounded = rw (all, total_values (numbering c.args.ty.now) c.loop-at.at) (omega arith);
      positive = rw all (positive_values (numbering c.args.ty.now) c.loop-at.at);
    }
