-- The first goal that passes a limit decides.
use Rattle.std.proofs.Common.{◌∙◌, sym, ap, arith}
use Rattle.std.specs.Prelude.{Err}
use Rattle.std.proofs.lemmas.Result.{err_from_is_err_and}
use Rattle.gb_theory.specs.Limits.{limited}
use Rattle.gb_theory.proofs.Passed.{each_limit-at, limited-first}
use Rattle.gb_theory.proofs.limits.check_each.Goals as goal

pub returns-in_err-check_goal : goal.returns-in_err-check_goal
returns-in_err-check_goal c =
    let given = err_from_is_err_and c.from_residual.result c.from_residual.ensures.1 in
    let here = each_limit-at c.args.goals.now c.loop-goal.goal-index c.goal-item.result (omega arith) c.goal-item.is in
    given.1 ∙ ap Err given.2 ∙ limited-first _ _ c.args.place _ (sym c.in_err-check_goal.was ∙ c.check_goal.ensures)
    ∙ ap (λ limit. limited limit c.args.place) (sym here ∙ c.loop-goal.invariant)
