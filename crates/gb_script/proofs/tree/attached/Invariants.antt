use Rattle.std.proofs.Common.{◌≡◌, length}
use Rattle.gb_script.specs.Tree.{attached}
use Rattle.gb_script.proofs.tree.attached.Given as goal

abbrev pub invariant-loop-item : goal.invariant-loop-item
invariant-loop-item l = attached l.tree l.items ≡ attached l.fn.first l.fn.items

abbrev pub decreases-loop-item : goal.decreases-loop-item
decreases-loop-item l = length l.items
