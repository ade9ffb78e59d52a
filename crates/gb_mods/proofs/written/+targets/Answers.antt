use Rattle.std.proofs.Common.{◌++◌, rules, ap, sym, append_assoc, ◌∙◌}
use Rattle.gb_mods.specs.Written.{targets, statement_targets}
use Rattle.gb_mods.proofs.WrittenSteps.{targets_if, targets_while}
use Rattle.gb_mods.proofs.written.+targets.Goals as goal

pub statement_targets-returns-in_ok-found-in-If : goal.statement_targets-returns-in_ok-found-in-If
statement_targets-returns-in_ok-found-in-If t c =
    let x = c.in-If in
    let e =
    ap (λ l. c.args.found ++ l) (ap statement_targets x.is ∙ targets_if x.field-0 x.yes x.no) ∙ sym (append_assoc c.args.found (targets x.yes.list) (targets x.no.list)) in
    search (rules, e)

pub statement_targets-returns-in-While : goal.statement_targets-returns-in-While
statement_targets-returns-in-While t c =
    let x = c.in-While in
    let e = ap (λ l. c.args.found ++ l) (ap statement_targets x.is ∙ targets_while x.field-0 x.field-1 x.body) in
    search (rules, e)
