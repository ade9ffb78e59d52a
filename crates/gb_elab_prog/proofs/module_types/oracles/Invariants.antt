use Rattle.std.proofs.Common.{◌≡◌, [], drop}
use Rattle.gb_elab_prog.specs.ModuleTypes.{oracles}
use Rattle.gb_elab_prog.proofs.module_types.oracles.Given as goal

abbrev pub invariant-loop-tree : goal.invariant-loop-tree
invariant-loop-tree l = oracles l.scope l.params l.all (drop l.tree-index l.trees) ≡ oracles l.scope l.params [] l.trees
