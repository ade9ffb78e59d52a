use Rattle.std.proofs.Common.{◌≡◌, ◌++◌, map, drop}
use Rattle.gb_prog.specs.AllValues.{in_memory}
use Rattle.gb_call_both.specs.BothOutcomes.{bound_seen}
use Rattle.gb_call.specs.Outcomes.{globals_seen}
use Rattle.gb_call_both.proofs.both.with_globals.Given as goal

abbrev pub invariant-loop-global : goal.invariant-loop-global
invariant-loop-global l =
    map bound_seen l.all ++ in_memory l.fn.side (globals_seen (drop l.global-index l.globals)) ≡ map bound_seen l.fn.found ++ in_memory l.fn.side (globals_seen l.globals)
