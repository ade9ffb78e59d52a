use Rattle.std.proofs.Common.{refl, rules, ap, ◌∙◌}
use Rattle.gb_goal.specs.Instances.{call_with, calls_with, stands_for}
use Rattle.gb_goal.proofs.Instances.{images_next, in_call, in_if, in_while}
use Rattle.gb_goal.proofs.instance.+call_with.Goals as goal

pub call_with-returns-in-Call : goal.call_with-returns-in-Call
call_with-returns-in-Call t c =
    let x = c.in-Call in
    let f = stands_for c.args.params.now c.args.args.now in
    let e = ap (call_with f) x.is ∙ in_call f x.vars x.procedure x.values in
    search (rules, e)

pub call_with-returns-in_ok-test-in-If : goal.call_with-returns-in_ok-test-in-If
call_with-returns-in_ok-test-in-If t c =
    let x = c.in-If in
    let f = stands_for c.args.params.now c.args.args.now in
    let e = ap (call_with f) x.is ∙ in_if f x.test x.yes x.no in
    search (rules, e)

pub call_with-returns-in_ok-guard-in-While : goal.call_with-returns-in_ok-guard-in-While
call_with-returns-in_ok-guard-in-While t c =
    let x = c.in-While in
    let f = stands_for c.args.params.now c.args.args.now in
    let e = ap (call_with f) x.is ∙ in_while f x.guard x.variant x.body in
    search (rules, e)

pub calls_with-loop-statement-preserved : goal.calls_with-loop-statement-preserved
calls_with-loop-statement-preserved t c =
    let f = stands_for c.args.params.now c.args.args.now in
    let l = c.loop-statement in
    images_next (calls_with f) (call_with f) (λ x xs. refl) c.args.list.now l.statement-index c.statement-item.result l.out c.push.new.self c.in_ok-call_with.field-0 c.loop-statement-test.true
    c.statement-item.is c.in_ok-push.ensures.ok c.in_ok-call_with.ensures l.invariant
