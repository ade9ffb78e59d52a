use Rattle.std.proofs.Common.{◌≡◌}
use Rattle.gb_smt.specs.declared.assign.Found.TheVariants.{True}
use Rattle.gb_smt.specs.Assign.{found_with_before}
use Rattle.gb_smt.proofs.assign.try_choices.Given as goal

abbrev pub invariant-loop-at : goal.invariant-loop-at
invariant-loop-at l = found_with_before l.scope l.most l.at l.claim ≡ True
