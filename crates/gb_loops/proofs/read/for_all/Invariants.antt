use Rattle.std.proofs.Common.{◌≡◌, ◌-◌, length, take}
use Rattle.gb_prog.specs.AllValues.{for_all}
use Rattle.gb_loops.specs.Read.{located_seen}
use Rattle.gb_loops.proofs.read.for_all.Given as goal

abbrev pub invariant-loop-k : goal.invariant-loop-k
invariant-loop-k l = for_all (located_seen (take (length l.list - l.k) l.list)) l.all ≡ for_all (located_seen l.list) l.fn.form
