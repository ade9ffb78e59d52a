use Rattle.std.proofs.Common.{◌≡◌, ◌++◌, length}
use Rattle.gb_script.proofs.build.put_on.Given as goal

abbrev pub invariant-loop-value : goal.invariant-loop-value
invariant-loop-value l = l.rest ++ l.stack ≡ l.fn.values ++ l.fn.stack

abbrev pub decreases-loop-value : goal.decreases-loop-value
decreases-loop-value l = length l.rest
