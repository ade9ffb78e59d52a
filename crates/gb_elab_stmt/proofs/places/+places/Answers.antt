use Rattle.std.proofs.Common.{rules, ◌+◌, ◌++◌, drop, ap, ◌∙◌}
use Rattle.gb_names.proofs.Parts.{left}
use Rattle.gb_elab_stmt.specs.Statements.{inside, with_places}
use Rattle.gb_elab_stmt.proofs.Next.{next_inside}
use Rattle.gb_elab_stmt.proofs.Stated.{counting_is}
use Rattle.gb_elab_stmt.proofs.places.+places.Goals as goal

pub add_inside-loop-part-preserved : goal.add_inside-loop-part-preserved
add_inside-loop-part-preserved t c =
    let ts = c.args.parts.now in
    let i = c.loop-part.part-index in
    ap (λ ps. ps ++ inside (with_places (drop (i + 1) ts))) c.in_ok-add_places.ensures
    ∙ next_inside ts i c.part-item.result (left ts i c.part-item.result c.loop-part-test.true c.part-item.is) c.loop-part.found
    ∙ c.loop-part.invariant

pub add_counted-returns-in_default : goal.add_counted-returns-in_default
add_counted-returns-in_default t c =
    let e =
    counting_is c.args.head (with_places c.args.parts.now) c.args.place c.in_default.not-If c.in_default.not-While c.in_default.not-Loop c.in_default.not-NamedLoop
    c.in_default.not-List in
    search (rules, e)
