-- What is left of the first goal stands in front of the other goals.
use Rattle.std.proofs.Common.{◌≡◌, ◌++◌, drop, ap, sym, ◌∙◌, subst}
use Rattle.std.proofs.lemmas.Result.{err_from_is_err_and}
use Rattle.std.specs.Prelude.{Err}
use Rattle.gb_goal.specs.Answers.{Fails}
use Rattle.gb_goal.specs.Answers.Answer.{given}
use Rattle.gb_theory.specs.Built.{with_goals}
use Rattle.gb_theory.specs.Combinators.{works}
use Rattle.gb_theory.specs.Commands.{WorksOn}
use Rattle.gb_theory.specs.Sessions.{Meets}
use Rattle.gb_theory.proofs.Steps.{next_meets, next_fails}
use Rattle.gb_theory.proofs.fold.subgoals.Goals as goal

pub returns-in_err-next : goal.returns-in_err-next
returns-in_err-next c = λ s p is.
    let rules = c.rules_have_answers.ensures.some c.args.scope.now in
    let e = err_from_is_err_and c.from_residual.result c.from_residual.ensures.1 in
    subst (Meets (λ next. with_goals s p (next ++ drop 1 c.args.goals.now)) (WorksOn c.args.goals.now s p c.args.tree.now c.args.place)) (sym (e.1 ∙ ap Err e.2))
    (next_fails c.args.scope.now c.args.goals.now c.in-Some.first.now c.args.tree.now c.args.place (sym c.in-Some.ensures) rules.0 rules.1 c.in_err-next.field-0.0
    (subst (λ gs. Fails (works c.args.scope.now rules.0 c.args.tree.now gs) c.in_err-next.field-0.0) c.from_ref.ensures.value (c.in_err-next.ensures rules.0 rules.1)) s p is)

pub returns : goal.returns
returns c = λ s p is.
    let rules = c.rules_have_answers.ensures.some c.args.scope.now in
    next_meets c.args.scope.now c.args.goals.now c.in-Some.first.now c.args.tree.now c.args.place (sym c.in-Some.ensures) rules.0 rules.1 c.in_ok-next.next c.within_limits.result
    (subst (λ gs. works c.args.scope.now rules.0 c.args.tree.now gs ≡ given c.in_ok-next.next) c.from_ref.ensures.value (c.in_ok-next.ensures rules.0 rules.1)) c.within_limits.ensures s p is
