use Rattle.gb_equality.proofs.Rows.{NoneBefore}
use Rattle.gb_equality.proofs.table.place_of.Given as goal

abbrev pub invariant-loop-place : goal.invariant-loop-place
invariant-loop-place l = NoneBefore l.nodes l.t l.place
