use Rattle.std.proofs.Common.{Err, IfErr, Result, ap, subst, sym, ◌∙◌}
use Rattle.std.proofs.lemmas.Result.{err_from_is_err_and}
use Rattle.gb_core.specs.declared.refusal.Refused.{Refused}
use Rattle.gb_read_script.specs.declared.goal_lines.ReadGoal.{ReadGoal}
use Rattle.gb_read_script.specs.GoalLines.{IsRefusedFor}
use Rattle.gb_read_script.specs.Goal.{IsLineRefusal}
use Rattle.gb_read_script.proofs.Refusals.{syntax_refused, long_refused, number_refused}
use Rattle.gb_read_script.proofs.goal.within_limits.Goals as goal

pub returns-in_err-goal-clause-refused : goal.returns-in_err-goal-clause-refused
returns-in_err-goal-clause-refused c =
    let given = err_from_is_err_and c.from_residual.result c.from_residual.ensures.1 in
    subst (λ (r : Result ReadGoal Refused). IfErr r (IsRefusedFor (IsLineRefusal c.args.text))) (sym (given.1 ∙ ap Err given.2))
    (syntax_refused c.in_err-goal.field-0.0 c.args.text c.in_err-goal.ensures.fault)

pub returns-in_err-check_lines-clause-refused : goal.returns-in_err-check_lines-clause-refused
returns-in_err-check_lines-clause-refused c =
    let given = err_from_is_err_and c.from_residual-in_err-check_lines.result c.from_residual-in_err-check_lines.ensures.1 in
    subst (λ (r : Result ReadGoal Refused). IfErr r (IsRefusedFor (IsLineRefusal c.args.text))) (sym (given.1 ∙ ap Err given.2))
    (long_refused c.in_err-check_lines.field-0.0 c.args.text c.in_ok-goal.goal c.in_ok-goal.ensures.found c.in_err-check_lines.ensures.long)

pub returns-in-Err-clause-refused : goal.returns-in-Err-clause-refused
returns-in-Err-clause-refused c =
    let numbers = c.check_numbers-numbers in
    subst (λ r. IfErr r (IsRefusedFor (IsLineRefusal c.args.text))) c.in-Err.is
    (number_refused numbers.result c.args.text c.in_ok-goal.goal c.in_ok-goal.ensures.found c.in_ok-check_lines.ensures.short numbers.ensures.no_fault numbers.ensures.overflow)
