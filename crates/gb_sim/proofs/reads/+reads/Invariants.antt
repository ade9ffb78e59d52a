use Rattle.std.proofs.Common.{◌≡◌, ◌++◌, drop}
use Rattle.gb_sim.specs.Reads.{list_reads}
use Rattle.gb_sim.proofs.reads.+reads.Given as goal

abbrev pub invariant-list_reads-loop-statement : goal.invariant-list_reads-loop-statement
invariant-list_reads-loop-statement l = l.all ++ list_reads (drop l.statement-index l.list) ≡ l.fn.found ++ list_reads l.list
