use Rattle.std.proofs.Common.{None, flat_map, rules, ap, ◌∙◌}
use Rattle.gb_terms.specs.declared.op.Side.TheVariants as side
use Rattle.gb_goal.specs.Interfaces.{procedure_type}
use Rattle.gb_elab_mod.specs.Occurring.{read_locals, returned, statement_locals, with_all}
use Rattle.gb_elab_mod.proofs.Found.{call_locals, if_locals, while_locals, with_append, with_more, with_three}
use Rattle.gb_elab_mod.proofs.occurring.+statements.Goals as goal

pub in_statement-returns-in_ok-in_result-in-Call : goal.in_statement-returns-in_ok-in_result-in-Call
in_statement-returns-in_ok-in_result-in-Call t c =
    let x = c.in-Call in
    let e =
    ap (with_all c.args.found.now) (ap (statement_locals c.args.scope.now) x.is ∙ call_locals c.args.scope.now x.vars x.called x.args)
    ∙ with_append c.args.found.now (returned x.vars (procedure_type c.args.scope.now None x.called)) (flat_map (λ u. read_locals u side.Own) x.args) in
    search (rules, e)

pub in_statement-returns-in_ok-in_body-in-If : goal.in_statement-returns-in_ok-in_body-in-If
in_statement-returns-in_ok-in_body-in-If t c =
    let x = c.in-If in
    let e =
    ap (with_all c.args.found.now) (ap (statement_locals c.args.scope.now) x.is ∙ if_locals c.args.scope.now x.test x.yes x.no)
    ∙ with_three c.args.found.now (read_locals x.test side.Own) (flat_map (statement_locals c.args.scope.now) x.yes.list) (flat_map (statement_locals c.args.scope.now) x.no.list) in
    search (rules, e)

pub in_statement-returns-in_ok-in_term-in-While-2 : goal.in_statement-returns-in_ok-in_term-in-While-2
in_statement-returns-in_ok-in_term-in-While-2 t c =
    let x = c.in-While in
    let e =
    ap (with_all c.args.found.now) (ap (statement_locals c.args.scope.now) x.is ∙ while_locals c.args.scope.now x.guard x.variant x.body)
    ∙ with_three c.args.found.now (read_locals x.guard side.Own) (read_locals x.variant side.Own) (flat_map (statement_locals c.args.scope.now) x.body.list) in
    search (rules, e)

pub in_body-loop-i-preserved : goal.in_body-loop-i-preserved
in_body-loop-i-preserved t c =
    let e = with_more (statement_locals c.args.scope.now) c.loop-i.found c.args.body.now c.loop-i.i-index c.i-item.result c.loop-i-test.true c.i-item.is in search (rules, e)
