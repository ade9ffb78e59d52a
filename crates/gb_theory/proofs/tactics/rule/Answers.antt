use Rattle.gb_theory.specs.Commands.{RuleAnswers}
use Rattle.gb_theory.proofs.Steps.{one_is_met}
use Rattle.gb_theory.proofs.tactics.rule.Goals as goal

pub returns : goal.returns
returns c = λ f rules.
    one_is_met (RuleAnswers c.args.scope.now c.args.tree.now c.args.goal.now) (f c.args.tree.now c.args.goal.now) c.subgoals.result
    (c.rules_have_answers.ensures.one c.args.scope.now c.args.tree.now c.args.goal.now) (rules c.args.tree.now c.args.goal.now) c.subgoals.ensures
