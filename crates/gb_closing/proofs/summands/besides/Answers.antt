use Rattle.std.proofs.Common.{Err, ap, refl, subst, sym, ◌∙◌}
use Rattle.std.proofs.lemmas.Result.{err_from_is_err_and}
use Rattle.gb_goal.specs.Answers.{Answers, Fails}
use Rattle.gb_closing.specs.Numbers.{operated}
use Rattle.gb_closing.specs.Summands.{behind, besides}
use Rattle.gb_closing.proofs.Behind.{besides_on, besides_fails, besides_all}
use Rattle.gb_closing.proofs.summands.besides.Goals as goal

pub loop-y-init : goal.loop-y-init
loop-y-init c = refl

pub loop-y-preserved : goal.loop-y-preserved
loop-y-preserved c =
    besides_on c.args.sign c.args.first c.args.second.now c.loop-y.out c.loop-y.y-index c.loop-y.invariant
    c.y-item.result c.loop-y-test.true c.y-item.is
    c.push.new.self c.in_ok-number.number c.in_ok-summand.summand (sym (ap (λ z. operated c.args.sign z c.y-item.result.coefficient) c.of_whole.ensures) ∙ c.in_ok-number.ensures) c.in_ok-summand.ensures c.in_ok-push.ensures.ok

pub returns-in_err-number : goal.returns-in_err-number
returns-in_err-number c =
    let e = err_from_is_err_and c.from_residual.result c.from_residual.ensures.1 in
    subst (Answers (behind c.args.first (besides c.args.sign c.args.second.now))) (sym (e.1 ∙ ap Err e.2))
    (besides_fails c.args.sign c.args.first c.args.second.now c.loop-y.out c.loop-y.y-index c.loop-y.invariant
    c.y-item.result c.loop-y-test.true c.y-item.is c.in_err-number.field-0.0
    (subst (λ z. Fails (operated c.args.sign z c.y-item.result.coefficient) c.in_err-number.field-0.0) c.of_whole.ensures c.in_err-number.ensures))

pub returns : goal.returns
returns c = besides_all c.args.sign c.args.first c.args.second.now c.loop-y.out c.loop-y.y-index c.loop-y.invariant c.loop-y-test.false
