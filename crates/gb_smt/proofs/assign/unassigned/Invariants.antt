use Rattle.std.proofs.Common.{◌≡◌, length}
use Rattle.gb_smt.proofs.assign.unassigned.Given as goal

abbrev pub invariant-loop-variable : goal.invariant-loop-variable
invariant-loop-variable l = length l.reads ≡ l.variable-index
