use Rattle.std.proofs.Common.{◌≡◌, ◌+◌, ◌*◌, ◌^◌, ◌<◌, max, true, length, map, drop}
use Rattle.gb_core.specs.declared.ty.Ty.{size-Ty}
use Rattle.gb_core.specs.Numbering.{tuples, tuple_place, is_tuple, entries_place, are_entries}
use Rattle.gb_core.specs.Types.{numbering}
use Rattle.gb_core.proofs.index.+place.Given as goal

abbrev pub decreases-place : goal.decreases-place
decreases-place l = 3 * goal.size-place l

abbrev pub decreases-place_of_tuple : goal.decreases-place_of_tuple
decreases-place_of_tuple l = 3 * goal.size-place_of_tuple l + 1

abbrev pub decreases-place_of_option : goal.decreases-place_of_option
decreases-place_of_option l = 3 * goal.size-place_of_option l + 1

abbrev pub decreases-place_of_map : goal.decreases-place_of_map
decreases-place_of_map l = 3 * max (size-Ty l.key.now) (size-Ty l.value.now) + 2

abbrev pub decreases-place_of_entry : goal.decreases-place_of_entry
decreases-place_of_entry l = 3 * max (size-Ty l.key.now) (size-Ty l.value.now) + 1

abbrev pub invariant-place_of_tuple-loop-i : goal.invariant-place_of_tuple-loop-i
invariant-place_of_tuple-loop-i l = record {
  values : is_tuple (map numbering (drop l.i l.types)) (drop l.i l.values) ≡ true;
  exact : tuples (map numbering (drop l.i l.types)) < 2 ^ 63;
  place : l.at * tuples (map numbering (drop l.i l.types)) + tuple_place (map numbering (drop l.i l.types)) (drop l.i l.values) ≡ tuple_place (map numbering l.types) l.values;
}

abbrev pub invariant-place_of_map-loop-entry : goal.invariant-place_of_map-loop-entry
invariant-place_of_map-loop-entry l = record {
  entries : are_entries (numbering l.key) (numbering l.value) 0 (drop l.entry-index l.entries) ≡ true;
  place : l.at + entries_place (numbering l.key) (numbering l.value) (drop l.entry-index l.entries) ≡ entries_place (numbering l.key) (numbering l.value) l.entries;
}
