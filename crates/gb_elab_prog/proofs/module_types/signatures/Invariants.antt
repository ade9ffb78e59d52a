use Rattle.std.proofs.Common.{◌≡◌, [], drop}
use Rattle.gb_elab_prog.specs.ModuleTypes.{signatures}
use Rattle.gb_elab_prog.proofs.module_types.signatures.Given as goal

abbrev pub invariant-loop-tree : goal.invariant-loop-tree
invariant-loop-tree l = signatures l.scope l.params l.all (drop l.tree-index l.trees) ≡ signatures l.scope l.params [] l.trees
