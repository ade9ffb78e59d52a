use Rattle.std.proofs.Common.{◌≡◌, drop}
use Rattle.gb_names.specs.Environment.{environment}
use Rattle.gb_elab_stmt.specs.Calls.{arguments}
use Rattle.gb_elab_stmt.proofs.Gathered.{behind}
use Rattle.gb_elab_stmt.proofs.calls.arguments.Given as goal

abbrev pub invariant-loop-arg : goal.invariant-loop-arg
invariant-loop-arg l = behind l.made (arguments (environment l.at) l.rest (drop l.arg-index l.args)) ≡ arguments (environment l.at) l.params l.args
