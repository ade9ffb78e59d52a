use Rattle.std.proofs.Common.{◌≡◌, take}
use Rattle.gb_linear.proofs.forms.shared.Given as goal

abbrev pub invariant-loop-x : goal.invariant-loop-x
invariant-loop-x l = l.out ≡ take l.x-index l.list
