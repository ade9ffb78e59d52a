use Rattle.std.proofs.Common.{◌≡◌, [], drop}
use Rattle.gb_names.specs.Environment.{environment}
use Rattle.gb_elab_stmt.specs.Targets.{pairs, targets}
use Rattle.gb_elab_stmt.proofs.targets.targets.Given as goal

abbrev pub invariant-loop-tree : goal.invariant-loop-tree
invariant-loop-tree l = targets (environment l.at) (pairs l.all) (drop l.tree-index l.paths) ≡ targets (environment l.at) [] l.paths
