-- What is still to be done with the goals that are left comes to what was to be done.
use Rattle.std.proofs.Common.{◌≡◌, ◌-◌, [], ◌∷◌, drop, length, map}
use Rattle.std.specs.List.{zip}
use Rattle.gb_script.specs.declared.tree.Node.{Node as Tree}
use Rattle.gb_theory.specs.Commands.{AreRules}
use Rattle.gb_theory.specs.Combinators.{Stepping, gathered_behind, in_turn, repeated, stepped_by, works}
use Rattle.gb_theory.specs.Tactics.{with_works, each_works, fits}
use Rattle.gb_theory.proofs.tactics.+tactic.Given as goal

abbrev pub invariant-in_turn-loop-step : goal.invariant-in_turn-loop-step
invariant-in_turn-loop-step l =
    (f : Tree → Stepping) → AreRules l.scope f →
    in_turn (each_works l.scope f (drop l.step-index l.steps)) l.left ≡ in_turn (each_works l.scope f l.steps) (l.goal ∷ [])

abbrev pub invariant-on_each-loop-goal : goal.invariant-on_each-loop-goal
invariant-on_each-loop-goal l =
    (f : Tree → Stepping) → AreRules l.scope f →
    gathered_behind l.left (map (stepped_by l.scope f l.head (with_works l.scope f l.parts) l.place) (drop l.goal-index l.goals))
    ≡ gathered_behind [] (map (stepped_by l.scope f l.head (with_works l.scope f l.parts) l.place) l.goals)

abbrev pub invariant-pattern-loop-goal : goal.invariant-pattern-loop-goal
invariant-pattern-loop-goal l =
    (f : Tree → Stepping) → AreRules l.scope f →
    gathered_behind l.left (map (fits l.scope f l.tree) (drop l.goal-index l.goals)) ≡ gathered_behind [] (map (fits l.scope f l.tree) l.goals)

abbrev pub invariant-spread-loop-i : goal.invariant-spread-loop-i
invariant-spread-loop-i l =
    (length l.tactics ≡ length l.goals)
    × ((f : Tree → Stepping) → AreRules l.scope f →
    gathered_behind l.left (map (λ x. x.0 (x.1 ∷ [])) (zip (each_works l.scope f (drop l.i l.tactics)) (drop l.i l.goals)))
    ≡ gathered_behind [] (map (λ x. x.0 (x.1 ∷ [])) (zip (each_works l.scope f l.tactics) l.goals)))

abbrev pub invariant-times-loop : goal.invariant-times-loop
invariant-times-loop l =
    (f : Tree → Stepping) → AreRules l.scope f →
    repeated (l.rounds - l.counter) (works l.scope f l.step) l.left ≡ repeated l.rounds (works l.scope f l.step) (l.goal ∷ [])
