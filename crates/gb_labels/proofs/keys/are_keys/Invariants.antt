use Rattle.std.proofs.Common.{◌≡◌, drop}
use Rattle.gb_labels.specs.Keys.{are_keys}
use Rattle.gb_labels.proofs.keys.are_keys.Given as goal

abbrev pub invariant-loop-entry : goal.invariant-loop-entry
invariant-loop-entry l = are_keys l.ty (drop l.entry-index l.entries) ≡ are_keys l.ty l.entries
