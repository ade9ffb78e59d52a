use Rattle.std.proofs.Common.{◌≡◌, map, take}
use Rattle.gb_smt.proofs.assign.values_of.Given as goal

abbrev pub invariant-loop-entry : goal.invariant-loop-entry
invariant-loop-entry l = l.values ≡ map (λ r. r.value) (take l.entry-index l.reads)
