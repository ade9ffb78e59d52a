use Rattle.std.proofs.Common.{sum}
use Rattle.gb_equality.specs.Table.{AreNarrowed}
use Rattle.gb_equality.proofs.closing.close.Given as goal

abbrev pub invariant-closing : goal.invariant-closing
invariant-closing l = AreNarrowed l.nodes l.initial.labels l.labels

abbrev pub decreases-closing : goal.decreases-closing
decreases-closing l = sum l.labels
