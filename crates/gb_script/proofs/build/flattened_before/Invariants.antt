use Rattle.std.proofs.Common.{◌≡◌, ◌++◌, length}
use Rattle.gb_script.specs.Value.{flattened}
use Rattle.gb_script.proofs.build.flattened_before.Given as goal

abbrev pub invariant-loop-value : goal.invariant-loop-value
invariant-loop-value l = flattened l.rest ++ l.all ≡ flattened l.fn.values ++ l.fn.behind

abbrev pub decreases-loop-value : goal.decreases-loop-value
decreases-loop-value l = length l.rest
