use Rattle.std.proofs.Common.{◌≡◌, ◌++◌, map, drop}
use Rattle.gb_prog.specs.AllValues.{to_bound_values}
use Rattle.gb_call_both.specs.BothOutcomes.{bound_seen}
use Rattle.gb_call_both.proofs.both.to_bound_values.Given as goal

abbrev pub invariant-loop-i : goal.invariant-loop-i
invariant-loop-i l = l.changes ++ to_bound_values (map bound_seen (drop l.i l.list)) ≡ l.fn.before ++ to_bound_values (map bound_seen l.list)
