use Rattle.std.proofs.Common.{◌≡◌, drop}
use Rattle.gb_sim.specs.Need.{is_among}
use Rattle.gb_sim.proofs.need.is_among.Given as goal

abbrev pub invariant-loop-x : goal.invariant-loop-x
invariant-loop-x l = is_among (drop l.x-index l.list) l.variable ≡ is_among l.list l.variable
