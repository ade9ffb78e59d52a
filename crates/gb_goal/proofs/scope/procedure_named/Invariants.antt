use Rattle.std.proofs.Common.{◌≡◌, drop}
use Rattle.gb_goal.specs.Scope.{proc_of}
use Rattle.gb_goal.proofs.scope.procedure_named.Given as goal

abbrev pub invariant-loop-p : goal.invariant-loop-p
invariant-loop-p l = proc_of (drop l.p-index l.procs) l.name ≡ proc_of l.procs l.name
