use Rattle.std.proofs.Common.{◌≡◌, drop}
use Rattle.gb_labels.specs.Reads.{is_clash_among}
use Rattle.gb_labels.proofs.reads.is_clash_among.Given as goal

abbrev pub invariant-loop-entry : goal.invariant-loop-entry
invariant-loop-entry l = is_clash_among l.exclusions (drop l.entry-index l.list) l.var ≡ is_clash_among l.exclusions l.list l.var
