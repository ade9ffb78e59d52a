use Rattle.std.proofs.Common.{◌≡◌, ◌++◌, drop}
use Rattle.gb_labels.specs.Held.{with_values}
use Rattle.gb_labels.proofs.held.with_values.Given as goal

abbrev pub invariant-loop-i : goal.invariant-loop-i
invariant-loop-i l = l.out ++ with_values (drop l.i l.variables) (drop l.i l.values) ≡ with_values l.variables l.values
