use Rattle.std.proofs.Common.{◌≡◌, drop}
use Rattle.gb_sim.specs.Need.{concern}
use Rattle.gb_sim.proofs.need.concern.Given as goal

abbrev pub invariant-loop-target : goal.invariant-loop-target
invariant-loop-target l = concern l.exclusions (drop l.target-index l.targets) l.list ≡ concern l.exclusions l.targets l.list
