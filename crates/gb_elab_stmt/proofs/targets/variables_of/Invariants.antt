use Rattle.std.proofs.Common.{◌≡◌, ◌++◌, drop}
use Rattle.gb_elab_stmt.specs.Targets.{pairs, variables_of}
use Rattle.gb_elab_stmt.proofs.targets.variables_of.Given as goal

abbrev pub invariant-loop-t : goal.invariant-loop-t
invariant-loop-t l = l.vars ++ variables_of (pairs (drop l.t-index l.targets)) ≡ variables_of (pairs l.targets)
