use Rattle.std.proofs.Common.{◌≡◌, ◌++◌, drop}
use Rattle.gb_prog.specs.AllValues.{in_memory, to_bound_values}
use Rattle.gb_call.specs.Outcomes.{globals_seen}
use Rattle.gb_call.proofs.outcomes.with_globals.Given as goal

abbrev pub invariant-loop-i : goal.invariant-loop-i
invariant-loop-i l =
    l.changes ++ to_bound_values (in_memory l.side (globals_seen (drop l.i l.globals))) ≡ l.fn.before ++ to_bound_values (in_memory l.side (globals_seen l.globals))
