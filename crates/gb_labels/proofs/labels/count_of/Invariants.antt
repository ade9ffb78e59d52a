use Rattle.std.proofs.Common.{◌≡◌, drop}
use Rattle.gb_labels.specs.Labels.{count_of}
use Rattle.gb_labels.proofs.labels.count_of.Given as goal

abbrev pub invariant-loop-label : goal.invariant-loop-label
invariant-loop-label l = count_of (drop l.label-index l.list) l.name ≡ count_of l.list l.name
