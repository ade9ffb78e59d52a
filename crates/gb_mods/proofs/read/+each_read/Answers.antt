use Rattle.std.proofs.Common.{◌++◌, rules, ap, ◌∙◌, sym}
use Rattle.gb_mods.specs.Read.{statement_read}
use Rattle.gb_mods.proofs.ReadSteps.{call_read, if_read, while_read}
use Rattle.gb_mods.proofs.read.+each_read.Goals as goal

pub statement_read-returns-in-Call : goal.statement_read-returns-in-Call
statement_read-returns-in-Call t c =
    let x = c.in-Call in
    let e = call_read c.args.found x.field-0 x.field-1 x.args ∙ ap (λ i. c.args.found ++ statement_read i) (sym x.is) in
    search (rules, e)

pub statement_read-returns-in_ok-found-in-If-2 : goal.statement_read-returns-in_ok-found-in-If-2
statement_read-returns-in_ok-found-in-If-2 t c =
    let x = c.in-If in
    let e = if_read c.args.found x.test x.yes x.no ∙ ap (λ i. c.args.found ++ statement_read i) (sym x.is) in
    search (rules, e)

pub statement_read-returns-in_ok-found-in-While-2 : goal.statement_read-returns-in_ok-found-in-While-2
statement_read-returns-in_ok-found-in-While-2 t c =
    let x = c.in-While in
    let e = while_read c.args.found x.test x.variant x.body ∙ ap (λ i. c.args.found ++ statement_read i) (sym x.is) in
    search (rules, e)
