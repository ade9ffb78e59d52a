use Rattle.std.proofs.Common.{◌≡◌, ◌-◌, length, take}
use Rattle.gb_prog.specs.AllValues.{for_all, in_memory}
use Rattle.gb_call.specs.Outcomes.{globals_seen}
use Rattle.gb_call.proofs.outcomes.for_all.Given as goal

abbrev pub invariant-loop-k : goal.invariant-loop-k
invariant-loop-k l = for_all (in_memory l.fn.side (globals_seen (take (length l.globals - l.k) l.globals))) l.all ≡ for_all (in_memory l.fn.side (globals_seen l.globals)) l.fn.form
