use Rattle.std.proofs.Common.{◌≡◌, ◌+◌, drop}
use Rattle.gb_names.specs.Bindings.{binders_inside}
use Rattle.gb_names.proofs.bindings.binders_inside.Given as goal

abbrev pub invariant-loop-i : goal.invariant-loop-i
invariant-loop-i l = l.i + binders_inside (drop l.i l.bound) l.name ≡ binders_inside l.bound l.name
