use Rattle.std.proofs.Common.{◌≡◌, drop}
use Rattle.gb_sim.specs.Need.{concerns}
use Rattle.gb_sim.proofs.need.concerns.Given as goal

abbrev pub invariant-loop-variable : goal.invariant-loop-variable
invariant-loop-variable l = concerns l.exclusions l.target (drop l.variable-index l.list) ≡ concerns l.exclusions l.target l.list
