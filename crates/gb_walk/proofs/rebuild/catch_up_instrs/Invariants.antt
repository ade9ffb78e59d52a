use Rattle.std.proofs.Common.{◌≡◌, ◌++◌, drop}
use Rattle.gb_walk.specs.Rebuild.{caught_up}
use Rattle.gb_walk.proofs.rebuild.catch_up_instrs.Given as goal

abbrev pub invariant-loop-i : goal.invariant-loop-i
invariant-loop-i l = l.out ++ drop l.i l.list ≡ caught_up l.initial.out l.list
