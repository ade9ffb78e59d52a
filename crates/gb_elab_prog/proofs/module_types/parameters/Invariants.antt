use Rattle.std.proofs.Common.{◌≡◌, [], drop}
use Rattle.gb_elab_prog.specs.ModuleTypes.{parameters}
use Rattle.gb_elab_prog.proofs.module_types.parameters.Given as goal

abbrev pub invariant-loop-tree : goal.invariant-loop-tree
invariant-loop-tree l = parameters l.scope l.params (drop l.tree-index l.trees) ≡ parameters l.scope [] l.trees
