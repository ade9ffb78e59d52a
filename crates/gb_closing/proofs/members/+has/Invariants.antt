use Rattle.std.proofs.Common.{◌≡◌, ◌+◌, ◌*◌, ◌^◌, ◌<◌, max, true, length, map, drop}
use Rattle.gb_core.specs.declared.ty.Ty.{size-Ty}
use Rattle.gb_core.specs.Numbering.{are_entries, is_tuple, tuples}
use Rattle.gb_core.specs.Types.{all_true, is_finite, numbering}
use Rattle.gb_closing.proofs.members.+has.Given as goal

abbrev pub decreases-has : goal.decreases-has
decreases-has l = 5 * goal.size-has l

abbrev pub decreases-has_parts : goal.decreases-has_parts
decreases-has_parts l = 5 * goal.size-has_parts l + 1

abbrev pub decreases-has_option : goal.decreases-has_option
decreases-has_option l = 5 * goal.size-has_option l + 1

abbrev pub decreases-has_entry : goal.decreases-has_entry
decreases-has_entry l = 5 * max (size-Ty l.key.now) (size-Ty l.value.now) + 1

abbrev pub decreases-behind_key : goal.decreases-behind_key
decreases-behind_key l = 5 * max (size-Ty l.key.now) (size-Ty l.value.now) + 2

abbrev pub decreases-has_entries : goal.decreases-has_entries
decreases-has_entries l = 5 * max (size-Ty l.key.now) (size-Ty l.value.now) + 3

abbrev pub invariant-has_parts-loop-i : goal.invariant-has_parts-loop-i
invariant-has_parts-loop-i l = record {
  lengths : length l.types ≡ length l.values;
  finite : all_true (map is_finite (drop l.i l.types)) ≡ true;
  some : 0 < tuples (map numbering (drop l.i l.types));
  small : tuples (map numbering (drop l.i l.types)) < 2 ^ 63;
  rest : is_tuple (map numbering (drop l.i l.types)) (drop l.i l.values) ≡ is_tuple (map numbering l.types) l.values;
}

abbrev pub invariant-has_entries-loop-entry : goal.invariant-has_entries-loop-entry
invariant-has_entries-loop-entry l =
    are_entries (numbering l.key) (numbering l.value) l.from (drop l.entry-index l.entries) ≡ are_entries (numbering l.key) (numbering l.value) 0 l.entries
