use Rattle.std.proofs.Common.{◌≡◌, map, take}
use Rattle.std.specs.Prelude.{sum}
use Rattle.gb_terms.specs.Nodes.{saturated}
use Rattle.gb_goal.specs.Nodes.{sequent_nodes}
use Rattle.gb_theory.proofs.limits.nodes_of_all.Given as goal

abbrev pub invariant-loop-goal : goal.invariant-loop-goal
invariant-loop-goal l = l.total ≡ saturated (sum (map sequent_nodes (take l.goal-index l.goals)))
