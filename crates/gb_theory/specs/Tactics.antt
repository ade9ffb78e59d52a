-- The parts of a tactic, each with what it makes of goals.
use Rattle.std.specs.Prelude.{List, map}
use Rattle.gb_script.specs.declared.tree.Node.{Node}
use Rattle.gb_script.specs.Tree.{head_of, parts_of, place_of}
use Rattle.gb_goal.specs.Answers.{◌>>=◌}
use Rattle.gb_goal.specs.Scope.{Declarations}
use Rattle.gb_goal.specs.declared.sequent.Sequent.{Sequent}
use Rattle.gb_theory.specs.Patterns.{Naming, added}
use Rattle.gb_theory.specs.Combinators.{Stepping, Working, fitted, inside, worked, works}

abbrev pub with_works : Declarations → (Node → Stepping) → List Node → List (Node × Working)
with_works ds f ts = map (λ t. (t, works ds f t)) ts

abbrev pub each_works : Declarations → (Node → Stepping) → List Node → List Working
each_works ds f ts = map (works ds f) ts

-- what the head and the parts of a node make of goals
abbrev pub inner : Declarations → (Node → Stepping) → Node → Working
inner ds f t = worked ds f (head_of t) (with_works ds f (parts_of t)) (place_of t)

-- what a pattern makes of a goal
abbrev pub fits : Declarations → (Node → Stepping) → Node → Stepping
fits ds f t q = fitted (head_of t) (f t q) >>= inside (head_of t) (inner ds f t)

-- the parts of patterns, each with the names that it adds
abbrev pub with_added : Declarations → Sequent → List Node → List (Node × Naming)
with_added ds q ts = map (λ t. (t, added ds q t)) ts

abbrev pub each_adds : Declarations → Sequent → List Node → List Naming
each_adds ds q ts = map (λ n. n.1) (with_added ds q ts)
