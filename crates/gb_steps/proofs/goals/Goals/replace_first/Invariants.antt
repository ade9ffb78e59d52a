use Rattle.std.proofs.Common.{◌≡◌, ◌++◌, length, drop}
use Rattle.gb_steps.proofs.goals.Goals.replace_first.Given as goal

abbrev pub invariant-loop-goal : goal.invariant-loop-goal
invariant-loop-goal l = l.rest ++ l.self ≡ l.fn.goals ++ drop 1 l.fn.self

abbrev pub decreases-loop-goal : goal.decreases-loop-goal
decreases-loop-goal l = length l.rest
