use Rattle.std.proofs.Common.{◌≡◌, map, take}
use Rattle.gb_elab_prog.proofs.operators.types_of.Given as goal

abbrev pub invariant-loop-x : goal.invariant-loop-x
invariant-loop-x l = l.types ≡ map (λ v. v.ty) (take l.x-index l.params)
