use Rattle.std.proofs.Common.{◌≡◌, map, take}
use Rattle.gb_labels.specs.Labelled.{labelled}
use Rattle.gb_labels.proofs.labelled.+labelled.Given as goal

abbrev pub invariant-labelled_all-loop-t : goal.invariant-labelled_all-loop-t
invariant-labelled_all-loop-t l = l.out ≡ map (labelled l.list) (take l.t-index l.terms)
