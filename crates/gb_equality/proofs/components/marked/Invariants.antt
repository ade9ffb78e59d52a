use Rattle.std.proofs.Common.{◌≡◌, ◌++◌, drop}
use Rattle.gb_equality.specs.Components.{marked}
use Rattle.gb_equality.proofs.components.marked.Given as goal

abbrev pub invariant-loop-at : goal.invariant-loop-at
invariant-loop-at l = l.out ++ marked l.wanted (drop l.at l.hyps) (drop l.at l.marks) ≡ marked l.wanted l.hyps l.marks
