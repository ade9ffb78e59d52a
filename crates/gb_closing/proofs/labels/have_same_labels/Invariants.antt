use Rattle.std.proofs.Common.{◌≡◌, take}
use Rattle.gb_closing.specs.Labels.{labels_at}
use Rattle.gb_closing.proofs.labels.have_same_labels.Given as goal

abbrev pub invariant-loop-at : goal.invariant-loop-at
invariant-loop-at l = labels_at l.labels (take l.at l.a) ≡ labels_at l.labels (take l.at l.b)
