use Rattle.std.proofs.Common.{◌≡◌, drop}
use Rattle.std.specs.List.{flat_map}
use Rattle.gb_labels.specs.Things.{noted, things_at}
use Rattle.gb_labels.proofs.things.+note.Given as goal

abbrev pub invariant-note_all-loop-t : goal.invariant-note_all-loop-t
invariant-note_all-loop-t l = noted l.list (flat_map things_at (drop l.t-index l.terms)) ≡ noted l.initial.list (flat_map things_at l.terms)
