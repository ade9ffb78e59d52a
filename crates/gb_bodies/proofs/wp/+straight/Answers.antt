use Rattle.std.proofs.Common.{◌≡◌, rules, ap, ◌∙◌}
use Rattle.gb_bodies.specs.Wp.{is_straight}
use Rattle.gb_bodies.proofs.WpSteps.{straight_if}
use Rattle.gb_bodies.proofs.wp.+straight.Goals as goal

pub is_straight-returns-then-are_straight : goal.is_straight-returns-then-are_straight
is_straight-returns-then-are_straight t c =
    let e = ap is_straight c.in-If.is ∙ straight_if c.in-If.field-0 c.in-If.yes c.in-If.no in search (rules, e)

pub is_straight-returns-else-are_straight : goal.is_straight-returns-else-are_straight
is_straight-returns-else-are_straight t c =
    let e = ap is_straight c.in-If.is ∙ straight_if c.in-If.field-0 c.in-If.yes c.in-If.no in search (rules, e)
