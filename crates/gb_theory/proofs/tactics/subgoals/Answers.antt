use Rattle.gb_theory.proofs.Steps.{subgoals_meet}
use Rattle.gb_theory.proofs.tactics.subgoals.Goals as goal

pub returns : goal.returns
returns c =
    subgoals_meet c.args.scope.now c.args.tree.now c.args.goal.now c.in_ok-step.step c.in_ok-goals.goals c.allowed.result c.in_ok-step.ensures
    c.in_ok-goals.ensures c.allowed.ensures
