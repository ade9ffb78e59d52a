use Rattle.std.proofs.Common.{◌++◌, rules, ap, ◌∙◌, sym}
use Rattle.gb_mods.specs.Touched.{statement_touched}
use Rattle.gb_mods.proofs.TouchedSteps.{call_behind, if_behind, while_behind}
use Rattle.gb_mods.proofs.touched.+touched.Goals as goal

pub statement_touched-returns-in_ok-found-in-Call : goal.statement_touched-returns-in_ok-found-in-Call
statement_touched-returns-in_ok-found-in-Call t c =
    let x = c.in-Call in
    let e = call_behind c.args.found x.targets x.field-1 x.args ∙ ap (λ i. c.args.found ++ statement_touched i) (sym x.is) in
    search (rules, e)

pub statement_touched-returns-in_ok-found-in-If-2 : goal.statement_touched-returns-in_ok-found-in-If-2
statement_touched-returns-in_ok-found-in-If-2 t c =
    let x = c.in-If in
    let e = if_behind c.args.found x.test x.yes x.no ∙ ap (λ i. c.args.found ++ statement_touched i) (sym x.is) in
    search (rules, e)

pub statement_touched-returns-in_ok-found-in-While-2 : goal.statement_touched-returns-in_ok-found-in-While-2
statement_touched-returns-in_ok-found-in-While-2 t c =
    let x = c.in-While in
    let e = while_behind c.args.found x.test x.variant x.body ∙ ap (λ i. c.args.found ++ statement_touched i) (sym x.is) in
    search (rules, e)
