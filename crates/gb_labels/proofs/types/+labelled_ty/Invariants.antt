use Rattle.std.proofs.Common.{◌≡◌, ◌+◌, ◌*◌, map, take}
use Rattle.gb_labels.specs.Labels.{labelled_ty}
use Rattle.gb_labels.proofs.types.+labelled_ty.Given as goal

abbrev pub decreases-labelled_ty : goal.decreases-labelled_ty
decreases-labelled_ty l = 2 * goal.size-labelled_ty l

abbrev pub decreases-labelled_parts : goal.decreases-labelled_parts
decreases-labelled_parts l = 2 * goal.size-labelled_parts l + 1

abbrev pub decreases-labelled_part : goal.decreases-labelled_part
decreases-labelled_part l = 2 * goal.size-labelled_part l + 1

abbrev pub invariant-labelled_parts-loop-part : goal.invariant-labelled_parts-loop-part
invariant-labelled_parts-loop-part l = l.out ≡ map (labelled_ty l.list) (take l.part-index l.parts)
