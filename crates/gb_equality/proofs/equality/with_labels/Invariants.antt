use Rattle.std.proofs.Common.{◌≡◌, take}
use Rattle.gb_equality.specs.Answer.{with_labels}
use Rattle.gb_equality.proofs.equality.with_labels.Given as goal

abbrev pub invariant-loop-at : goal.invariant-loop-at
invariant-loop-at l = l.list ≡ with_labels (take l.at l.nodes) (take l.at l.labels)
