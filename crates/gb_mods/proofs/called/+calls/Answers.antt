use Rattle.std.proofs.Common.{◌++◌, rules, ap, sym, append_assoc, ◌∙◌}
use Rattle.gb_mods.specs.Called.{calls, statement_calls}
use Rattle.gb_mods.proofs.CalledSteps.{calls_if, calls_while}
use Rattle.gb_mods.proofs.called.+calls.Goals as goal

pub statement_calls-returns-in_ok-found-in-If : goal.statement_calls-returns-in_ok-found-in-If
statement_calls-returns-in_ok-found-in-If t c =
    let x = c.in-If in
    let e =
    ap (λ l. c.args.found ++ l) (ap statement_calls x.is ∙ calls_if x.field-0 x.yes x.no) ∙ sym (append_assoc c.args.found (calls x.yes.list) (calls x.no.list)) in
    search (rules, e)

pub statement_calls-returns-in-While : goal.statement_calls-returns-in-While
statement_calls-returns-in-While t c =
    let x = c.in-While in
    let e = ap (λ l. c.args.found ++ l) (ap statement_calls x.is ∙ calls_while x.field-0 x.field-1 x.body) in
    search (rules, e)
