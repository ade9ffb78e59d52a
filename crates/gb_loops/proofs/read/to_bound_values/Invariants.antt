use Rattle.std.proofs.Common.{◌≡◌, ◌++◌, drop}
use Rattle.gb_prog.specs.AllValues.{to_bound_values}
use Rattle.gb_loops.specs.Read.{located_seen}
use Rattle.gb_loops.proofs.read.to_bound_values.Given as goal

abbrev pub invariant-loop-i : goal.invariant-loop-i
invariant-loop-i l = l.changes ++ to_bound_values (located_seen (drop l.i l.list)) ≡ to_bound_values (located_seen l.list)
