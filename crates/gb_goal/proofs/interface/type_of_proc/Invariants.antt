use Rattle.std.proofs.Common.{◌≡◌, drop}
use Rattle.gb_goal.specs.Interfaces.{found, procedure_types}
use Rattle.gb_goal.proofs.interface.type_of_proc.Given as goal

abbrev pub invariant-loop-p : goal.invariant-loop-p
invariant-loop-p l = found (procedure_types (drop l.p-index l.procs)) l.name ≡ found (procedure_types l.procs) l.name
