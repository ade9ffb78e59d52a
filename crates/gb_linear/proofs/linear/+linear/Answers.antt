use Rattle.std.proofs.Common.{Some, Err, get_or, ap, sym, ◌∙◌}
use Rattle.std.proofs.lemmas.Result.{err_from_is_err_and}
use Rattle.gb_goal.specs.Answers.{◌>>=◌}
use Rattle.gb_goal.specs.Answers.Answer.{given}
use Rattle.gb_terms.specs.declared.term.Term.{out-Term}
use Rattle.gb_linear.specs.declared.linear.Prefix.TheVariants as Prefixes
use Rattle.gb_closing.specs.declared.numbers.Sign.TheVariants.{Minus}
use Rattle.gb_closing.specs.Numbers.{zero}
use Rattle.gb_linear.specs.Forms.{combined, of_number}
use Rattle.gb_linear.specs.Linear.{at_forms, linear, plain}
use Rattle.gb_linear.proofs.Passed.{refusal_stands, leads_on, answers_as}
use Rattle.gb_linear.proofs.Taken.{at_one, at_two, at_none, at_other, second_is}
use Rattle.gb_linear.proofs.linear.+linear.Goals as goal

pub returns-in_err-a-in-Opposite : goal.returns-in_err-a-in-Opposite
returns-in_err-a-in-Opposite t c =
    let e = err_from_is_err_and c.from_residual.result c.from_residual.ensures.1 in
    refusal_stands (linear c.args.t.now) (linear c.index-args-0-in-Opposite.result) (combined Minus (of_number zero)) c.from_residual.result c.in_err-a-in-Opposite.field-0.0
    (at_one c.args.t.now c.as_slice-args.result.now c.as_slice-args.ensures c.get.result.now c.get-then-args-eq1.result.now Prefixes.Opposite c.index-args-0-in-Opposite.result c.index-args-0.result c.if-args-eq1.true c.index-args-0-in-Opposite.is c.get.ensures c.get-then-args-eq1.ensures (sym c.in-Opposite.is ∙ c.prefixed.ensures))
    c.in_err-a-in-Opposite.ensures (e.1 ∙ ap Err e.2)

pub returns-in_ok-a-in-Opposite : goal.returns-in_ok-a-in-Opposite
returns-in_ok-a-in-Opposite t c =
    answers_as (linear c.args.t.now) (combined Minus (of_number zero) c.in_ok-a-in-Opposite.a) c.opposite.result
    (leads_on (linear c.args.t.now) (linear c.index-args-0-in-Opposite.result) (combined Minus (of_number zero)) c.in_ok-a-in-Opposite.a
    (at_one c.args.t.now c.as_slice-args.result.now c.as_slice-args.ensures c.get.result.now c.get-then-args-eq1.result.now Prefixes.Opposite c.index-args-0-in-Opposite.result c.index-args-0.result c.if-args-eq1.true c.index-args-0-in-Opposite.is c.get.ensures c.get-then-args-eq1.ensures (sym c.in-Opposite.is ∙ c.prefixed.ensures))
    c.in_ok-a-in-Opposite.ensures)
    c.opposite.ensures

pub returns-in-Same : goal.returns-in-Same
returns-in-Same t c =
    answers_as (linear c.args.t.now) (linear c.index-args-0-in-Same.result) c.linear-in-Same.result
    (at_one c.args.t.now c.as_slice-args.result.now c.as_slice-args.ensures c.get.result.now c.get-then-args-eq1.result.now Prefixes.Same c.index-args-0-in-Same.result c.index-args-0.result c.if-args-eq1.true c.index-args-0-in-Same.is c.get.ensures c.get-then-args-eq1.ensures (sym c.in-Same.is ∙ c.prefixed.ensures))
    c.linear-in-Same.ensures

pub returns-in-Other : goal.returns-in-Other
returns-in-Other t c =
    answers_as (linear c.args.t.now) (given (plain (out-Term c.args.t.now).head c.args.t.now)) c.plain.result
    (at_one c.args.t.now c.as_slice-args.result.now c.as_slice-args.ensures c.get.result.now c.get-then-args-eq1.result.now Prefixes.Other c.index-args-0.result c.index-args-0.result c.if-args-eq1.true c.index-args-0.is c.get.ensures c.get-then-args-eq1.ensures (sym c.in-Other.is ∙ c.prefixed.ensures))
    c.plain.ensures

pub returns-in_err-a-in-Some : goal.returns-in_err-a-in-Some
returns-in_err-a-in-Some t c =
    let e = err_from_is_err_and c.from_residual-in_err-a-in-Some.result c.from_residual-in_err-a-in-Some.ensures.1 in
    let b = get_or c.as_slice-args.result.now 1 c.index-args-0-in-Some.result in
    refusal_stands (linear c.args.t.now) (linear c.index-args-0-in-Some.result) (λ x. linear b >>= λ y. at_forms c.in-Some.op x y c.args.t.now) c.from_residual-in_err-a-in-Some.result c.in_err-a-in-Some.field-0.0
    (at_two c.args.t.now c.as_slice-args.result.now c.as_slice-args.ensures c.get-then-args-eq2.result.now (Some c.in-Some.op) c.index-args-0-in-Some.result b c.if-args-eq2.true c.index-args-0-in-Some.is (second_is c.as_slice-args.result.now c.index-args-0-in-Some.result c.if-args-eq2.true) c.get-then-args-eq2.ensures (sym c.in-Some.is ∙ c.joining.ensures))
    c.in_err-a-in-Some.ensures (e.1 ∙ ap Err e.2)

pub returns-in_err-b-in-Some : goal.returns-in_err-b-in-Some
returns-in_err-b-in-Some t c =
    let e = err_from_is_err_and c.from_residual-in_err-b-in-Some.result c.from_residual-in_err-b-in-Some.ensures.1 in
    refusal_stands (linear c.args.t.now) (linear c.index-args-1.result) (λ y. at_forms c.in-Some.op c.in_ok-a-in-Some.a y c.args.t.now) c.from_residual-in_err-b-in-Some.result c.in_err-b-in-Some.field-0.0
    (leads_on (linear c.args.t.now) (linear c.index-args-0-in-Some.result) (λ x. linear c.index-args-1.result >>= λ y. at_forms c.in-Some.op x y c.args.t.now) c.in_ok-a-in-Some.a
    (at_two c.args.t.now c.as_slice-args.result.now c.as_slice-args.ensures c.get-then-args-eq2.result.now (Some c.in-Some.op) c.index-args-0-in-Some.result c.index-args-1.result c.if-args-eq2.true c.index-args-0-in-Some.is c.index-args-1.is c.get-then-args-eq2.ensures (sym c.in-Some.is ∙ c.joining.ensures))
    c.in_ok-a-in-Some.ensures)
    c.in_err-b-in-Some.ensures (e.1 ∙ ap Err e.2)

pub returns-in_ok-b-in-Some : goal.returns-in_ok-b-in-Some
returns-in_ok-b-in-Some t c =
    answers_as (linear c.args.t.now) (at_forms c.in-Some.op c.in_ok-a-in-Some.a c.in_ok-b-in-Some.b c.args.t.now) c.at_forms.result
    (leads_on (linear c.args.t.now) (linear c.index-args-1.result) (λ y. at_forms c.in-Some.op c.in_ok-a-in-Some.a y c.args.t.now) c.in_ok-b-in-Some.b
    (leads_on (linear c.args.t.now) (linear c.index-args-0-in-Some.result) (λ x. linear c.index-args-1.result >>= λ y. at_forms c.in-Some.op x y c.args.t.now) c.in_ok-a-in-Some.a
    (at_two c.args.t.now c.as_slice-args.result.now c.as_slice-args.ensures c.get-then-args-eq2.result.now (Some c.in-Some.op) c.index-args-0-in-Some.result c.index-args-1.result c.if-args-eq2.true c.index-args-0-in-Some.is c.index-args-1.is c.get-then-args-eq2.ensures (sym c.in-Some.is ∙ c.joining.ensures))
    c.in_ok-a-in-Some.ensures)
    c.in_ok-b-in-Some.ensures)
    c.at_forms.ensures

pub returns-in-None : goal.returns-in-None
returns-in-None t c =
    answers_as (linear c.args.t.now) (given (plain (out-Term c.args.t.now).head c.args.t.now)) c.plain-in-None.result
    (at_none c.args.t.now c.as_slice-args.result.now c.as_slice-args.ensures c.get-then-args-eq2.result.now c.if-args-eq2.true c.get-then-args-eq2.ensures (sym c.in-None.is ∙ c.joining.ensures))
    c.plain-in-None.ensures

pub returns : goal.returns
returns t c =
    answers_as (linear c.args.t.now) (given (plain (out-Term c.args.t.now).head c.args.t.now)) c.plain-2.result
    (at_other c.args.t.now c.as_slice-args.result.now c.as_slice-args.ensures c.if-args-eq1.false c.if-args-eq2.false)
    c.plain-2.ensures
