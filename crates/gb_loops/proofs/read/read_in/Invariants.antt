use Rattle.std.proofs.Common.{◌≡◌, ◌++◌, drop}
use Rattle.gb_loops.specs.Read.{located_seen, read_in}
use Rattle.gb_loops.proofs.read.read_in.Given as goal

abbrev pub invariant-loop-variable : goal.invariant-loop-variable
invariant-loop-variable l = located_seen l.all ++ read_in l.fn.side l.form (drop l.variable-index l.list) ≡ located_seen l.fn.found ++ read_in l.fn.side l.form l.list
