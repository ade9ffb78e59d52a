use Rattle.std.proofs.Common.{◌≡◌, [], drop}
use Rattle.gb_elab_prog.specs.Procedures.{formals}
use Rattle.gb_elab_prog.proofs.procedure.formals.Given as goal

abbrev pub invariant-loop-tree : goal.invariant-loop-tree
invariant-loop-tree l = formals l.scope l.params (drop l.tree-index l.trees) ≡ formals l.scope [] l.trees
