use Rattle.std.proofs.Common.{◌≡◌, ◌^◌, min, map, take}
use Rattle.gb_equality.proofs.Products.{product}
use Rattle.gb_equality.proofs.sizes.size_of_reads.Given as goal

abbrev pub invariant-loop-variable : goal.invariant-loop-variable
invariant-loop-variable l = l.all ≡ min (product (map (λ v. v.ty) (take l.variable-index l.variables))) (2 ^ 63)
