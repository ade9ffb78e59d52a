use Rattle.std.proofs.Common.{◌≡◌, rules, ap, sym, ◌∙◌, Some, None}
use Rattle.gb_sim.specs.Need.{statement_need}
use Rattle.gb_sim.proofs.NeedSteps.{call_needs, if_needs, next_needed, none_needed, while_needs}
use Rattle.gb_sim.proofs.need.+need.Goals as goal

pub need-returns-in_default : goal.need-returns-in_default
need-returns-in_default t c =
    let n : statement_need c.args.exclusions.now c.args.scope.now c.index-list-at.result c.loop-k.known ≡ None = search rules in
    none_needed c.args.exclusions.now c.args.scope.now c.args.list.now c.loop-k.k c.index-list-at.result c.loop-k.known c.args.after.now c.loop-k-test.true c.index-list-at.is n c.loop-k.invariant

pub need-loop-k-preserved : goal.need-loop-k-preserved
need-loop-k-preserved t c =
    let n : statement_need c.args.exclusions.now c.args.scope.now c.index-list-at.result c.loop-k.known ≡ Some c.in-Some.earlier = search rules in
    next_needed c.args.exclusions.now c.args.scope.now c.args.list.now c.loop-k.k c.index-list-at.result c.loop-k.known c.in-Some.earlier c.args.after.now c.loop-k-test.true c.index-list-at.is n c.loop-k.invariant

pub statement_need-returns-in-Call : goal.statement_need-returns-in-Call
statement_need-returns-in-Call t c =
    let x = c.in-Call in
    let e = call_needs c.args.exclusions.now c.args.scope.now x.targets x.procedure x.args c.args.after.now ∙ ap (λ i. statement_need c.args.exclusions.now c.args.scope.now i c.args.after.now) (sym x.is) in
    search (rules, e)

pub statement_need-returns-in_ok-no-in-If : goal.statement_need-returns-in_ok-no-in-If
statement_need-returns-in_ok-no-in-If t c =
    let x = c.in-If in
    let e = if_needs c.args.exclusions.now c.args.scope.now x.test x.yes x.no c.args.after.now ∙ ap (λ i. statement_need c.args.exclusions.now c.args.scope.now i c.args.after.now) (sym x.is) in
    search (rules, e)

pub statement_need-returns-in_ok-reads-in-While : goal.statement_need-returns-in_ok-reads-in-While
statement_need-returns-in_ok-reads-in-While t c =
    let x = c.in-While in
    let e = while_needs c.args.exclusions.now c.args.scope.now x.test x.variant x.body c.args.after.now ∙ ap (λ i. statement_need c.args.exclusions.now c.args.scope.now i c.args.after.now) (sym x.is) in
    search (rules, e)
