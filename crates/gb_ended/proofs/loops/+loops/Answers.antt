use Rattle.std.proofs.Common.{rules, ap, ◌∙◌}
use Rattle.gb_ended.specs.Loops.{loops}
use Rattle.gb_ended.proofs.LoopSteps.{loops_if}
use Rattle.gb_ended.proofs.loops.+loops.Goals as goal

pub loops-returns-then-has_loop : goal.loops-returns-then-has_loop
loops-returns-then-has_loop t c =
    let x = c.in-If in
    let e = ap loops x.is ∙ loops_if x.field-0 x.yes x.no in
    search (rules, e)

pub loops-returns-else-has_loop : goal.loops-returns-else-has_loop
loops-returns-else-has_loop t c =
    let x = c.in-If in
    let e = ap loops x.is ∙ loops_if x.field-0 x.yes x.no in
    search (rules, e)
