use Rattle.gb_theory.proofs.Steps.{both_meets, same_meets}
use Rattle.gb_theory.proofs.tactics.on_both.Goals as goal

pub returns-in-Sim : goal.returns-in-Sim
returns-in-Sim c =
    same_meets c.args.scope.now c.args.step.now.rule c.args.rule.now c.args.step.now.place c.args.goal.now c.apply.result c.requires c.in-Sim.is c.apply.ensures

pub returns-in_default : goal.returns-in_default
returns-in_default c =
    both_meets c.args.scope.now c.args.step.now.rule c.args.rule.now c.args.step.now.place c.args.goal.now c.apply-in_default.result c.requires c.in_default.not-Sim c.apply-in_default.ensures
