use Rattle.std.proofs.Common.{◌≡◌, ◌≤◌, length, drop}
use Rattle.gb_state.proofs.state.shared.Given as goal

-- the goals from here on
abbrev pub invariant-loop-at : goal.invariant-loop-at
invariant-loop-at l = (l.at ≤ length l.goals) × (l.made ≡ drop l.at l.goals)

abbrev pub decreases-loop-at : goal.decreases-loop-at
decreases-loop-at l = l.at
