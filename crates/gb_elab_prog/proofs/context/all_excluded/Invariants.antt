use Rattle.std.proofs.Common.{◌≡◌, [], drop}
use Rattle.gb_elab_prog.specs.Contexts.{all_excluded}
use Rattle.gb_elab_prog.proofs.context.all_excluded.Given as goal

abbrev pub invariant-loop-tree : goal.invariant-loop-tree
invariant-loop-tree l = all_excluded l.scope l.binds l.names (drop l.tree-index l.trees) ≡ all_excluded l.scope l.binds [] l.trees
