use Rattle.gb_inline.specs.Taken.{AreTaken}
use Rattle.gb_inline.proofs.fresh.free_number.Given as goal

abbrev pub invariant-loop-k : goal.invariant-loop-k
invariant-loop-k l = AreTaken l.taken l.first l.k
