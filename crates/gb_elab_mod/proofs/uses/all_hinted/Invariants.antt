use Rattle.std.proofs.Common.{◌≡◌, drop}
use Rattle.gb_elab_mod.specs.Uses.{all_hinted}
use Rattle.gb_elab_stmt.proofs.Gathered.{behind}
use Rattle.gb_elab_mod.proofs.uses.all_hinted.Given as goal

abbrev pub invariant-loop-tree : goal.invariant-loop-tree
invariant-loop-tree l = behind l.out (all_hinted l.scope l.goal (drop l.tree-index l.trees)) ≡ all_hinted l.scope l.goal l.trees
