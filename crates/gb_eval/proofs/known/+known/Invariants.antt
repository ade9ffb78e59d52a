use Rattle.std.proofs.Common.{◌≡◌, ◌+◌, ◌*◌, drop}
use Rattle.std.specs.List.{list_all}
use Rattle.gb_eval.specs.Known.{is_known, known_in}
use Rattle.gb_eval.proofs.Fuel.{fuel_in}
use Rattle.gb_eval.proofs.known.+known.Given as goal

abbrev pub decreases-is_known : goal.decreases-is_known
decreases-is_known l = fuel_in l.script.now + 8 * goal.size-is_known l + 3

abbrev pub decreases-are_known : goal.decreases-are_known
decreases-are_known l = fuel_in l.script.now + 8 * goal.size-are_known l + 4

abbrev pub decreases-is_head_known : goal.decreases-is_head_known
decreases-is_head_known l = fuel_in l.script.now + 2

abbrev pub decreases-is_operator_known : goal.decreases-is_operator_known
decreases-is_operator_known l = fuel_in l.script.now + 1

abbrev pub invariant-are_known-loop-t : goal.invariant-are_known-loop-t
invariant-are_known-loop-t l = list_all (is_known (known_in l.script)) (drop l.t-index l.list) ≡ list_all (is_known (known_in l.script)) l.list
