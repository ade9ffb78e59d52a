use Rattle.std.proofs.Common.{◌≡◌, take}
use Rattle.gb_names.specs.Binders.{of_type}
use Rattle.gb_names.proofs.binders.of_type.Given as goal

abbrev pub invariant-loop-x : goal.invariant-loop-x
invariant-loop-x l = l.all ≡ of_type (take l.x-index l.names) l.ty
