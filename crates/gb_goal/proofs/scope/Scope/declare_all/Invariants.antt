use Rattle.std.proofs.Common.{◌≡◌, ◌++◌, length}
use Rattle.gb_goal.specs.Scope.{AreNew}
use Rattle.gb_goal.proofs.scope.Scope.declare_all.Given as goal

-- what is left is new, and stands behind what is declared
abbrev pub invariant-loop-alloc : goal.invariant-loop-alloc
invariant-loop-alloc l = AreNew l.self l.added × (l.self ++ l.added ≡ l.initial.self ++ l.initial.added)

abbrev pub decreases-loop-alloc : goal.decreases-loop-alloc
decreases-loop-alloc l = length l.added
