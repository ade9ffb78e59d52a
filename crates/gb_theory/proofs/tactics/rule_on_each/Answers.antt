use Rattle.std.proofs.Common.{◌+◌, drop, map, ap, sym, ◌∙◌, subst}
use Rattle.std.proofs.lemmas.Result.{err_from_is_err_and}
use Rattle.std.specs.Prelude.{Err}
use Rattle.gb_goal.specs.Answers.{Answers}
use Rattle.gb_names.proofs.Answers.{fails_as}
use Rattle.gb_names.proofs.Parts.{left}
use Rattle.gb_theory.specs.Combinators.{gathered_behind, on_each}
use Rattle.gb_theory.proofs.Combined.{next_given, next_fails}
use Rattle.gb_theory.proofs.tactics.rule_on_each.Goals as goal

pub returns-in_err-more : goal.returns-in_err-more
returns-in_err-more c = λ f rules.
    let qs = c.args.goals.now in
    let i = c.loop-goal.goal-index in
    let g = f c.args.tree.now in
    let e = err_from_is_err_and c.from_residual.result c.from_residual.ensures.1 in
    subst (Answers (on_each g qs)) (sym (e.1 ∙ ap Err e.2))
    (fails_as _ _ c.in_err-more.field-0.0 (sym (c.loop-goal.invariant f rules))
    (next_fails g qs i c.goal-item.result c.loop-goal.left (left qs i c.goal-item.result c.loop-goal-test.true c.goal-item.is) c.in_err-more.field-0.0
    (c.in_err-more.ensures f rules)))

pub loop-goal-preserved : goal.loop-goal-preserved
loop-goal-preserved c = λ f rules.
    let qs = c.args.goals.now in
    let i = c.loop-goal.goal-index in
    let g = f c.args.tree.now in
    ap (λ ls. gathered_behind ls (map g (drop (i + 1) qs))) c.in_ok-append.ensures
    ∙ sym (next_given g qs i c.goal-item.result c.loop-goal.left (left qs i c.goal-item.result c.loop-goal-test.true c.goal-item.is) c.in_ok-more.more
    (c.in_ok-more.ensures f rules))
    ∙ c.loop-goal.invariant f rules
