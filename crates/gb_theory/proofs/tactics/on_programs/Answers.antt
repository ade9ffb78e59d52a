use Rattle.gb_theory.proofs.Steps.{row_answers}
use Rattle.gb_theory.proofs.tactics.on_programs.Goals as goal

pub returns-in_default : goal.returns-in_default
returns-in_default c =
    row_answers c.args.scope.now c.args.step.now.rule c.args.acts c.args.rule.now c.args.step.now.place c.args.goal.now c.apply.result c.requires c.in_default.not-Decided c.apply.ensures
