-- Open goals on a stack.
use Rattle.std.specs.Prelude.{◌≡◌, List, [], ◌∷◌, map, sum}
use Rattle.gb_terms.specs.Nodes.{saturated}
use Rattle.gb_steps.specs.declared.goals.Open.{Open}
use Rattle.gb_goal.specs.declared.sequent.Sequent.{Sequent}
use Rattle.gb_goal.specs.Nodes.{sequent_nodes}

-- the goals, the first one first
abbrev pub goals_of : List Open → List Sequent
goals_of opens = map (λ o. o.goal) opens

-- each has the number of nodes of it and of the goals below it
abbrev pub AreCounted : List Open → Type 0
AreCounted [] = Unit {0}
AreCounted (o ∷ opens) = (o.nodes ≡ saturated (sum (map sequent_nodes (goals_of (o ∷ opens))))) × AreCounted opens
