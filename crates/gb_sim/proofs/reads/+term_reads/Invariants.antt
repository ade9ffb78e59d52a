use Rattle.std.proofs.Common.{◌≡◌, ◌++◌, drop}
use Rattle.gb_sim.specs.Reads.{each_reads}
use Rattle.gb_sim.proofs.reads.+term_reads.Given as goal

abbrev pub invariant-each_reads-loop-term : goal.invariant-each_reads-loop-term
invariant-each_reads-loop-term l = l.all ++ each_reads (drop l.term-index l.list) ≡ l.fn.found ++ each_reads l.list
