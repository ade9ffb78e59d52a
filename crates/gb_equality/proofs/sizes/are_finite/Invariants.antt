use Rattle.std.proofs.Common.{◌≡◌, map, drop}
use Rattle.gb_equality.proofs.Products.{are_finite}
use Rattle.gb_equality.proofs.sizes.are_finite.Given as goal

abbrev pub invariant-loop-variable : goal.invariant-loop-variable
invariant-loop-variable l =
    are_finite (map (λ v. v.ty) (drop l.variable-index l.variables)) ≡ are_finite (map (λ v. v.ty) l.variables)
