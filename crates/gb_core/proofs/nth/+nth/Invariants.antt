use Rattle.std.proofs.Common.{◌≡◌, ◌^◌, ◌<◌, ◌-◌, ◌+◌, ◌*◌, ◌++◌, max, map, drop}
use Rattle.gb_core.specs.declared.ty.Ty.{size-Ty}
use Rattle.gb_core.specs.Numbering.{tuples, tuple_at, entries_at, choices}
use Rattle.gb_core.specs.Types.{numbering, size_of}
use Rattle.gb_core.proofs.nth.+nth.Given as goal

abbrev pub decreases-nth_below : goal.decreases-nth_below
decreases-nth_below l = 3 * goal.size-nth_below l

abbrev pub decreases-nth_tuple : goal.decreases-nth_tuple
decreases-nth_tuple l = 3 * goal.size-nth_tuple l + 1

abbrev pub decreases-nth_option : goal.decreases-nth_option
decreases-nth_option l = 3 * goal.size-nth_option l + 1

abbrev pub decreases-nth_map : goal.decreases-nth_map
decreases-nth_map l = 3 * max (size-Ty l.key.now) (size-Ty l.value.now) + 2

abbrev pub decreases-nth_entry : goal.decreases-nth_entry
decreases-nth_entry l = 3 * max (size-Ty l.key.now) (size-Ty l.value.now) + 1

abbrev pub invariant-nth_tuple-loop-part : goal.invariant-nth_tuple-loop-part
invariant-nth_tuple-loop-part l = record {
  left : l.left ≡ tuples (map numbering (drop l.part-index l.parts));
  below : l.rest < l.left;
  exact : l.left < 2 ^ 63;
  parts : l.out ++ tuple_at (map numbering (drop l.part-index l.parts)) l.rest ≡ tuple_at (map numbering l.parts) l.at;
}

abbrev pub invariant-nth_map-loop-place : goal.invariant-nth_map-loop-place
invariant-nth_map-loop-place l = record {
  left : l.left ≡ choices (numbering l.value) ^ (l.keys - l.place);
  below : l.rest < l.left;
  exact : l.left < 2 ^ 63;
  keys : l.keys ≡ size_of l.key;
  few : size_of l.key < 63;
  entries : l.out ++ entries_at (numbering l.key) (numbering l.value) (l.keys - l.place) l.rest ≡ entries_at (numbering l.key) (numbering l.value) (size_of l.key) l.at;
}
