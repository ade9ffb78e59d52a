use Rattle.std.proofs.Common.{◌≡◌, drop}
use Rattle.gb_elab_prog.specs.Modules.{empty_module, with_parameters}
use Rattle.gb_elab_prog.proofs.parameters.with_parameters.Given as goal

abbrev pub invariant-loop-tree : goal.invariant-loop-tree
invariant-loop-tree l = (with_parameters l.scope l.«module» (drop l.tree-index l.trees) ≡ with_parameters l.scope (empty_module l.name) l.trees) × (l.«module».name ≡ l.name)
