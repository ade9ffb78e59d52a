use Rattle.std.proofs.Common.{◌≡◌, ◌+◌, ◌*◌, ◌^◌, min, take}
use Rattle.std.specs.List.{flat_map}
use Rattle.gb_eval.proofs.Fuel.{fuel_in}
use Rattle.gb_smt.specs.Width.{bound_in, bound_types}
use Rattle.gb_equality.proofs.Products.{product}
use Rattle.gb_smt.proofs.width.+bound_size.Given as goal

abbrev pub decreases-bound_size : goal.decreases-bound_size
decreases-bound_size l = fuel_in l.script.now + 8 * goal.size-bound_size l + 3

abbrev pub decreases-bound_size_of_all : goal.decreases-bound_size_of_all
decreases-bound_size_of_all l = fuel_in l.script.now + 8 * goal.size-bound_size_of_all l + 4

abbrev pub decreases-bound_size_of_head : goal.decreases-bound_size_of_head
decreases-bound_size_of_head l = fuel_in l.script.now + 2

abbrev pub decreases-bound_size_of_operator : goal.decreases-bound_size_of_operator
decreases-bound_size_of_operator l = fuel_in l.script.now + 1

abbrev pub invariant-bound_size_of_all-loop-t : goal.invariant-bound_size_of_all-loop-t
invariant-bound_size_of_all-loop-t l = l.all ≡ min (product (flat_map (bound_types (bound_in l.script)) (take l.t-index l.list))) (2 ^ 63)
