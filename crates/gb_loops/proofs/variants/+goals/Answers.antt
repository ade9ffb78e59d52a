use Rattle.std.proofs.Common.{◌++◌, rules, ap, sym, append_assoc, ◌∙◌}
use Rattle.gb_loops.specs.Loops.{Loop, loops, statement_loops}
use Rattle.gb_loops.specs.Variants.{loop_goals}
use Rattle.gb_loops.proofs.GoalSteps.{each_goals, goals_if, goals_while}
use Rattle.gb_loops.proofs.variants.+goals.Goals as goal

pub statement_goals-returns-in_ok-found-in-If : goal.statement_goals-returns-in_ok-found-in-If
statement_goals-returns-in_ok-found-in-If t c =
    let x = c.in-If in
    let e =
    ap (λ l. c.args.found ++ l) (ap (λ s. each_goals (statement_loops s)) x.is ∙ goals_if x.field-0 x.yes x.no)
    ∙ sym (append_assoc c.args.found (each_goals (loops x.yes.list)) (each_goals (loops x.no.list))) in
    search (rules, e)

pub statement_goals-returns-in_ok-found-in-While : goal.statement_goals-returns-in_ok-found-in-While
statement_goals-returns-in_ok-found-in-While t c =
    let x = c.in-While in
    let l : Loop = record { guard = x.guard; variant = x.variant; body = x.body.list } in
    let e =
    ap (λ z. c.args.found ++ z) (ap (λ s. each_goals (statement_loops s)) x.is ∙ goals_while x.guard x.variant x.body)
    ∙ sym (append_assoc c.args.found (each_goals (loops x.body.list)) (loop_goals l)) in
    search (rules, e)
