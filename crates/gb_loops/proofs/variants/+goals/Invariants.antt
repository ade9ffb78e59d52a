use Rattle.std.proofs.Common.{◌≡◌, ◌++◌, drop}
use Rattle.gb_loops.specs.Loops.{loops}
use Rattle.gb_loops.proofs.GoalSteps.{each_goals}
use Rattle.gb_loops.proofs.variants.+goals.Given as goal

abbrev pub invariant-goals_behind-loop-statement : goal.invariant-goals_behind-loop-statement
invariant-goals_behind-loop-statement l = l.all ++ each_goals (loops (drop l.statement-index l.list)) ≡ l.fn.found ++ each_goals (loops l.list)
