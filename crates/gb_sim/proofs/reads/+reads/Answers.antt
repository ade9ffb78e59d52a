use Rattle.std.proofs.Common.{◌++◌, rules, ap, ◌∙◌, sym}
use Rattle.gb_sim.specs.Reads.{statement_reads}
use Rattle.gb_sim.proofs.ReadSteps.{call_behind, if_behind, while_behind}
use Rattle.gb_sim.proofs.reads.+reads.Goals as goal

pub statement_reads-returns-in-Call : goal.statement_reads-returns-in-Call
statement_reads-returns-in-Call t c =
    let x = c.in-Call in
    let e = call_behind c.args.found x.field-0 x.field-1 x.args ∙ ap (λ i. c.args.found ++ statement_reads i) (sym x.is) in
    search (rules, e)

pub statement_reads-returns-in_ok-found-in-If-2 : goal.statement_reads-returns-in_ok-found-in-If-2
statement_reads-returns-in_ok-found-in-If-2 t c =
    let x = c.in-If in
    let e = if_behind c.args.found x.test x.yes x.no ∙ ap (λ i. c.args.found ++ statement_reads i) (sym x.is) in
    search (rules, e)

pub statement_reads-returns-in_ok-found-in-While-2 : goal.statement_reads-returns-in_ok-found-in-While-2
statement_reads-returns-in_ok-found-in-While-2 t c =
    let x = c.in-While in
    let e = while_behind c.args.found x.test x.variant x.body ∙ ap (λ i. c.args.found ++ statement_reads i) (sym x.is) in
    search (rules, e)
