use Rattle.std.proofs.Common.{◌≡◌, drop}
use Rattle.gb_theory.specs.Limits.{each_limit}
use Rattle.gb_theory.proofs.limits.check_each.Given as goal

-- no goal so far passes a limit
abbrev pub invariant-loop-goal : goal.invariant-loop-goal
invariant-loop-goal l = each_limit (drop l.goal-index l.goals) ≡ each_limit l.goals
