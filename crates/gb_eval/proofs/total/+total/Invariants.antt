use Rattle.std.proofs.Common.{◌+◌, ◌*◌}
use Rattle.gb_eval.proofs.Fuel.{fuel_in}
use Rattle.gb_eval.proofs.total.+total.Given as goal

abbrev pub decreases-total : goal.decreases-total
decreases-total l = fuel_in l.script.now + 8 * goal.size-total l + 1

abbrev pub decreases-named_total : goal.decreases-named_total
decreases-named_total l = fuel_in l.script.now

abbrev pub decreases-of_first : goal.decreases-of_first
decreases-of_first l = fuel_in l.script.now + 8 * goal.size-of_first l + 2

abbrev pub decreases-operator_total : goal.decreases-operator_total
decreases-operator_total l = fuel_in l.script.now + 8 * goal.size-operator_total l + 3

abbrev pub decreases-multiplied : goal.decreases-multiplied
decreases-multiplied l = fuel_in l.script.now + 8 * goal.size-multiplied l + 2
