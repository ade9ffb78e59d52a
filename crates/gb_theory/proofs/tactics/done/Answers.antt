use Rattle.std.proofs.Common.{subst}
use Rattle.gb_goal.specs.Answers.{Answers}
use Rattle.gb_theory.specs.Combinators.{on_each}
use Rattle.gb_theory.proofs.tactics.done.Goals as goal

pub returns : goal.returns
returns c = λ f rules. subst (λ n. Answers (on_each (f n) c.args.goals.now) c.rule_on_each.result) c.in_ok-step.ensures (c.rule_on_each.ensures f rules)
