use Rattle.std.proofs.Common.{take}
use Rattle.std.specs.List.{AllZip}
use Rattle.gb_limits.specs.Lexeme.{kinds_of}
use Rattle.gb_read_script.specs.GoalLines.{part_of}
use Rattle.gb_read_script.specs.Goal.{IsTreeOf}
use Rattle.gb_read_script.proofs.goal_tree.tree.Given as goal

abbrev pub ghost-tree_of : goal.ghost-tree_of
ghost-tree_of a = record { part = part_of a.line.now.sort; kinds = kinds_of a.line.now.text }

abbrev pub invariant-loop-line : goal.invariant-loop-line
invariant-loop-line l = AllZip IsTreeOf (take l.line-index l.goal.context) l.context
