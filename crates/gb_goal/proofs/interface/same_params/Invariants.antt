use Rattle.std.proofs.Common.{◌≡◌, drop}
use Rattle.gb_goal.specs.Interfaces.{same_params}
use Rattle.gb_goal.proofs.interface.same_params.Given as goal

abbrev pub invariant-loop-x : goal.invariant-loop-x
invariant-loop-x l = same_params (drop l.x-index l.left) l.others ≡ same_params l.left l.right
