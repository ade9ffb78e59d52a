use Rattle.std.proofs.Common.{◌≡◌, map, take}
use Rattle.gb_equality.specs.Variables.{variables}
use Rattle.gb_equality.proofs.components.variables_of_each.Given as goal

abbrev pub invariant-loop-hyp : goal.invariant-loop-hyp
invariant-loop-hyp l = l.all ≡ map variables (take l.hyp-index l.hyps)
