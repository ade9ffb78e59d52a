use Rattle.std.proofs.Common.{List, map, sum, drop, sym, ap, ◌∙◌}
use Rattle.gb_terms.specs.Nodes.{saturated}
use Rattle.gb_goal.specs.declared.sequent.Sequent.{Sequent}
use Rattle.gb_goal.specs.Nodes.{sequent_nodes}
use Rattle.gb_steps.proofs.Counted.{counted_at, none_behind}
use Rattle.gb_steps.proofs.goals.Goals.nodes_behind.Goals as goal

pub returns-in-Some : goal.returns-in-Some
returns-in-Some c =
    counted_at c.self.inside.stack c.args.at c.in-Some.open.now c.self.invariant (sym c.in-Some.ensures)
    ∙ ap (λ (gs : List Sequent). saturated (sum (map sequent_nodes (drop c.args.at gs)))) c.self.view_is

pub returns-in-None : goal.returns-in-None
returns-in-None c =
    none_behind c.self.inside.stack c.args.at (sym c.in-None.ensures)
    ∙ ap (λ (gs : List Sequent). saturated (sum (map sequent_nodes (drop c.args.at gs)))) c.self.view_is
