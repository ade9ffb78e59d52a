use Rattle.gb_equality.specs.Answer.{AreFresh}
use Rattle.gb_equality.proofs.equality.fresh_labels.Given as goal

abbrev pub invariant-loop-at : goal.invariant-loop-at
invariant-loop-at l = AreFresh l.at l.labels.items
