use Rattle.std.proofs.Common.{◌≡◌, ◌++◌, drop}
use Rattle.gb_sim.specs.Need.{without}
use Rattle.gb_sim.proofs.need.without.Given as goal

abbrev pub invariant-loop-variable : goal.invariant-loop-variable
invariant-loop-variable l = l.all ++ without l.targets (drop l.variable-index l.list) ≡ without l.targets l.list
