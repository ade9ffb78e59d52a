use Rattle.std.proofs.Common.{◌≡◌, drop}
use Rattle.gb_elab_mod.specs.Multiples.{multiples}
use Rattle.gb_elab_stmt.proofs.Gathered.{behind}
use Rattle.gb_elab_mod.proofs.multiples.multiples.Given as goal

abbrev pub invariant-loop-tree : goal.invariant-loop-tree
invariant-loop-tree l = behind l.out (multiples l.scope l.goal (drop l.tree-index l.trees)) ≡ multiples l.scope l.goal l.trees
