use Rattle.std.proofs.Common.{◌≡◌, drop}
use Rattle.gb_sim.specs.Sim.{with_equalities}
use Rattle.gb_sim.proofs.sim.with_equalities.Given as goal

abbrev pub invariant-loop-x : goal.invariant-loop-x
invariant-loop-x l = with_equalities l.all (drop l.x-index l.list) ≡ with_equalities l.fn.form l.list
