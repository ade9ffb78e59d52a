use Rattle.std.proofs.Common.{take}
use Rattle.std.specs.List.{All}
use Rattle.gb_smt.specs.Apply.{IsClosed}
use Rattle.gb_smt.proofs.apply.close_goal.Given as goal

abbrev pub invariant-loop-leaf : goal.invariant-loop-leaf
invariant-loop-leaf l = All (IsClosed l.scope) (take l.leaf-index l.leaf-items)
