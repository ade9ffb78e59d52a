use Rattle.gb_theory.proofs.Steps.{beside_answers, guard_answers}
use Rattle.gb_theory.proofs.tactics.on_guard.Goals as goal

pub returns-in-All : goal.returns-in-All
returns-in-All c =
    guard_answers c.args.scope.now c.args.step.now.rule c.args.acts c.args.at c.args.holds c.args.step.now.place c.args.goal.now c.apply.result c.requires c.in-All.is c.apply.ensures

pub returns-in_default : goal.returns-in_default
returns-in_default c =
    beside_answers c.args.scope.now c.args.acts c.args.at c.args.holds c.args.step.now.place c.args.goal.now c.apply-in_default.result c.in_default.not-All c.apply-in_default.ensures
