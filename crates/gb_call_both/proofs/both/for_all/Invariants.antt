use Rattle.std.proofs.Common.{◌≡◌, ◌-◌, length, map, take}
use Rattle.gb_prog.specs.AllValues.{for_all}
use Rattle.gb_call_both.specs.BothOutcomes.{bound_seen}
use Rattle.gb_call_both.proofs.both.for_all.Given as goal

abbrev pub invariant-loop-k : goal.invariant-loop-k
invariant-loop-k l = for_all (map bound_seen (take (length l.list - l.k) l.list)) l.all ≡ for_all (map bound_seen l.list) l.fn.form
