use Rattle.std.proofs.Common.{rules, map, ap, ◌∙◌}
use Rattle.gb_full.specs.Loss.{body_loss, known_seen, statement_loss}
use Rattle.gb_full.proofs.LossSteps.{first_kept, loss_if, loss_while}
use Rattle.gb_full.proofs.loss.+statements.Goals as goal

pub statement_loss-returns-in-Nowhere : goal.statement_loss-returns-in-Nowhere
statement_loss-returns-in-Nowhere t c =
    let ds = c.args.scope.now in
    let ns = c.args.full.now in
    let ks = map known_seen c.args.known.now in
    let e = ap (statement_loss ds ns ks) c.in-If.is ∙ loss_if ds ns ks c.in-If.field-0 c.in-If.yes c.in-If.no in search (rules, e)

pub statement_loss-returns-in_default : goal.statement_loss-returns-in_default
statement_loss-returns-in_default t c =
    let ds = c.args.scope.now in
    let ns = c.args.full.now in
    let ks = map known_seen c.args.known.now in
    let e = ap (statement_loss ds ns ks) c.in-If.is ∙ loss_if ds ns ks c.in-If.field-0 c.in-If.yes c.in-If.no in
    let k = first_kept c.body_loss.result (body_loss ds ns ks c.in-If.no.list) c.in_default.not-Nowhere in search (rules, e, k)

pub statement_loss-returns-in-While : goal.statement_loss-returns-in-While
statement_loss-returns-in-While t c =
    let ds = c.args.scope.now in
    let ns = c.args.full.now in
    let ks = map known_seen c.args.known.now in
    let e = ap (statement_loss ds ns ks) c.in-While.is ∙ loss_while ds ns ks c.in-While.field-0 c.in-While.field-1 c.in-While.body in search (rules, e)
