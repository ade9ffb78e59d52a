use Rattle.std.proofs.Common.{◌≡◌, ◌∷◌, take}
use Rattle.gb_names.specs.Binders.{values}
use Rattle.gb_names.proofs.binders.values.Given as goal

abbrev pub invariant-loop-x : goal.invariant-loop-x
invariant-loop-x l = l.all ≡ values (l.first ∷ take l.x-index l.more) l.ty
