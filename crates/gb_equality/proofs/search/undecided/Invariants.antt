use Rattle.gb_equality.proofs.Searching.{DecidedBefore}
use Rattle.gb_equality.proofs.search.undecided.Given as goal

abbrev pub invariant-loop-at : goal.invariant-loop-at
invariant-loop-at l = DecidedBefore l.nodes l.labels l.at
