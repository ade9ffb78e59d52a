use Rattle.std.proofs.Common.{◌≡◌, ◌+◌, ◌*◌, map, take}
use Rattle.gb_instances.specs.Put.{name_put, type_put}
use Rattle.gb_instances.proofs.put.+type_put.Given as goal

abbrev pub decreases-type_put : goal.decreases-type_put
decreases-type_put l = 2 * goal.size-type_put l

abbrev pub decreases-parts_put : goal.decreases-parts_put
decreases-parts_put l = 2 * goal.size-parts_put l + 1

abbrev pub decreases-part_put : goal.decreases-part_put
decreases-part_put l = 2 * goal.size-part_put l + 1

abbrev pub invariant-parts_put-loop-part : goal.invariant-parts_put-loop-part
invariant-parts_put-loop-part l = l.out ≡ map (type_put (name_put l.params l.modules)) (take l.part-index l.parts)
