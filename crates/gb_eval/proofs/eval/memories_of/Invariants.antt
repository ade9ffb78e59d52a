use Rattle.std.proofs.Common.{◌≡◌, map, take}
use Rattle.gb_eval.proofs.eval.memories_of.Given as goal

abbrev pub invariant-loop-variable : goal.invariant-loop-variable
invariant-loop-variable l = l.types ≡ map (λ x. x.ty) (take l.variable-index l.variables)
