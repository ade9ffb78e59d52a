use Rattle.std.proofs.Common.{◌≡◌, [], drop, map}
use Rattle.gb_script.specs.declared.tree.Node.{Node as Tree}
use Rattle.gb_theory.specs.Commands.{AreRules}
use Rattle.gb_theory.specs.Combinators.{Stepping, gathered_behind}
use Rattle.gb_theory.proofs.tactics.rule_on_each.Given as goal

abbrev pub invariant-loop-goal : goal.invariant-loop-goal
invariant-loop-goal l =
    (f : Tree → Stepping) → AreRules l.scope f →
    gathered_behind l.left (map (f l.tree) (drop l.goal-index l.goals)) ≡ gathered_behind [] (map (f l.tree) l.goals)
