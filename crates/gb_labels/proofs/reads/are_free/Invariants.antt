use Rattle.std.proofs.Common.{◌≡◌, drop}
use Rattle.gb_labels.specs.Reads.{are_free}
use Rattle.gb_labels.proofs.reads.are_free.Given as goal

abbrev pub invariant-loop-i : goal.invariant-loop-i
invariant-loop-i l = are_free l.exclusions (drop l.i l.list) ≡ are_free l.exclusions l.list
