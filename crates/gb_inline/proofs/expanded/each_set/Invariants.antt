use Rattle.std.proofs.Common.{◌≡◌, ◌++◌, drop}
use Rattle.gb_inline.specs.Expanded.{each_set}
use Rattle.gb_inline.proofs.expanded.each_set.Given as goal

abbrev pub invariant-loop-i : goal.invariant-loop-i
invariant-loop-i l = l.all ++ each_set (drop l.i l.names) (drop l.i l.values) ≡ each_set l.names l.values
