use Rattle.std.proofs.Common.{◌≡◌, drop}
use Rattle.gb_names.specs.Environment.{environment}
use Rattle.gb_elab_stmt.specs.Statements.{all_stated, with_statings}
use Rattle.gb_elab_stmt.proofs.Gathered.{behind}
use Rattle.gb_elab_stmt.proofs.statement.+statements.Given as goal

abbrev pub invariant-all_stated-loop-tree : goal.invariant-all_stated-loop-tree
invariant-all_stated-loop-tree l = behind l.list (all_stated (with_statings (drop l.tree-index l.trees)) (environment l.at)) ≡ all_stated (with_statings l.trees) (environment l.at)
