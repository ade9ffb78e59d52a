use Rattle.std.proofs.Common.{◌≡◌, drop}
use Rattle.gb_labels.specs.Held.{value_of}
use Rattle.gb_labels.proofs.held.value_of.Given as goal

abbrev pub invariant-loop-entry : goal.invariant-loop-entry
invariant-loop-entry l = value_of (drop l.entry-index l.list) l.var l.ty ≡ value_of l.list l.var l.ty
