use Rattle.std.proofs.Common.{◌≡◌, ◌≤◌, take}
use Rattle.gb_goal.specs.Scope.{declarations_in}
use Rattle.gb_goal.proofs.scope.Scope.declarations.Given as goal

abbrev pub invariant-loop-i : goal.invariant-loop-i
invariant-loop-i l = (l.count ≡ declarations_in (take l.i l.self)) × (l.count ≤ l.i)
