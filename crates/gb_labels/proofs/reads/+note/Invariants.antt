use Rattle.std.proofs.Common.{◌≡◌, map, drop}
use Rattle.gb_walk.specs.Layers.{seen_by}
use Rattle.gb_labels.specs.Reads.{joined, noted, reads_at}
use Rattle.gb_labels.proofs.reads.+note.Given as goal

abbrev pub invariant-note_all-loop-i : goal.invariant-note_all-loop-i
invariant-note_all-loop-i l =
    noted l.list (joined (seen_by l.depth l.last (map reads_at (drop l.i l.args)))) ≡ noted l.initial.list (joined (seen_by l.depth l.last (map reads_at l.args)))
