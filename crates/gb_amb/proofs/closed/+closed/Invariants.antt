use Rattle.std.proofs.Common.{◌+◌, ◌*◌}
use Rattle.gb_amb.proofs.closed.+closed.Given as goal

abbrev pub decreases-is_closed_within : goal.decreases-is_closed_within
decreases-is_closed_within l = 5 * l.layers

abbrev pub decreases-is_closed_at : goal.decreases-is_closed_at
decreases-is_closed_at l = 5 * l.layers + 4

abbrev pub decreases-of_operator : goal.decreases-of_operator
decreases-of_operator l = 5 * l.layers + 3

abbrev pub decreases-of_value : goal.decreases-of_value
decreases-of_value l = 5 * l.layers + 1

abbrev pub decreases-of_memory : goal.decreases-of_memory
decreases-of_memory l = 5 * l.layers + 1

abbrev pub decreases-of_premise : goal.decreases-of_premise
decreases-of_premise l = 5 * l.layers + 1

abbrev pub decreases-of_sides : goal.decreases-of_sides
decreases-of_sides l = 5 * l.layers + 2

abbrev pub decreases-of_both : goal.decreases-of_both
decreases-of_both l = 5 * l.layers + 1
