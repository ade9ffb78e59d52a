use Rattle.std.proofs.Common.{◌≡◌, ◌++◌, drop}
use Rattle.gb_labels.proofs.entries.push_all.Given as goal

abbrev pub invariant-loop-entry : goal.invariant-loop-entry
invariant-loop-entry l = l.out ++ drop l.entry-index l.entries ≡ l.initial.out ++ l.entries
