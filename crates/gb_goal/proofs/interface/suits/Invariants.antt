use Rattle.std.proofs.Common.{◌≡◌, drop}
use Rattle.gb_goal.specs.Interfaces.{suits}
use Rattle.gb_goal.proofs.interface.suits.Given as goal

abbrev pub invariant-loop-p : goal.invariant-loop-p
invariant-loop-p l = suits l.scope (drop l.p-index l.params) l.others ≡ suits l.scope l.params l.args
