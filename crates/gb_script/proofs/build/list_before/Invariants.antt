use Rattle.std.proofs.Common.{◌≡◌, ◌++◌, length}
use Rattle.gb_script.proofs.build.list_before.Given as goal

abbrev pub invariant-loop-tree : goal.invariant-loop-tree
invariant-loop-tree l = l.rest ++ l.all ≡ l.fn.front ++ l.fn.behind

abbrev pub decreases-loop-tree : goal.decreases-loop-tree
decreases-loop-tree l = length l.rest
