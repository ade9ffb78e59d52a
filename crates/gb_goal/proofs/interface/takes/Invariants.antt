use Rattle.std.proofs.Common.{◌≡◌, drop}
use Rattle.gb_goal.specs.Interfaces.{takes}
use Rattle.gb_goal.proofs.interface.takes.Given as goal

abbrev pub invariant-loop-p : goal.invariant-loop-p
invariant-loop-p l = takes l.scope (drop l.p-index l.lacks) l.others ≡ takes l.scope l.lacks l.params
