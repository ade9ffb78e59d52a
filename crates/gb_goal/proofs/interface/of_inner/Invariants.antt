use Rattle.std.proofs.Common.{◌≡◌, drop}
use Rattle.gb_goal.specs.Interfaces.{of_inner}
use Rattle.gb_goal.proofs.interface.of_inner.Given as goal

abbrev pub invariant-loop-p : goal.invariant-loop-p
invariant-loop-p l = of_inner l.scope l.«module» (drop l.p-index l.params) l.name ≡ of_inner l.scope l.«module» l.params l.name
