use Rattle.std.proofs.Common.{◌≡◌, ◌++◌, length}
use Rattle.gb_core.proofs.stack.Stack.from_items.Given as goal

abbrev pub invariant-loop-item : goal.invariant-loop-item
invariant-loop-item g l = l.rest ++ l.stack ≡ l.fn.items

abbrev pub decreases-loop-item : goal.decreases-loop-item
decreases-loop-item g l = length l.rest
