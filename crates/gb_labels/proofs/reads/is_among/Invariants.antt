use Rattle.std.proofs.Common.{◌≡◌, drop}
use Rattle.gb_labels.specs.Reads.{is_among}
use Rattle.gb_labels.proofs.reads.is_among.Given as goal

abbrev pub invariant-loop-entry : goal.invariant-loop-entry
invariant-loop-entry l = is_among (drop l.entry-index l.list) l.var l.ty ≡ is_among l.list l.var l.ty
