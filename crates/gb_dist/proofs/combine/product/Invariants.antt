use Rattle.std.proofs.Common.{◌≡◌, ◌++◌, ◌∷◌, [], drop, pos}
use Rattle.gb_dist.specs.Operations.{product_of, first_overflow}
use Rattle.gb_dist.specs.Lists.{product}
use Rattle.gb_dist.specs.Rows.{entries, product_steps}
use Rattle.gb_dist.proofs.combine.product.Given as goal

abbrev pub invariant-loop-row : goal.invariant-loop-row
invariant-loop-row l = record {
  rows : entries l.rows ++ product (entries (drop l.row-index l.a.rows)) (entries l.b.rows) ≡ product (entries l.a.rows) (entries l.b.rows);
  steps : first_overflow (product_steps (entries (drop l.row-index l.a.rows)) (entries l.b.rows) ++ product_of (pos l.a.total) (pos l.b.total) ∷ [])
      ≡ first_overflow (product_steps (entries l.a.rows) (entries l.b.rows) ++ product_of (pos l.a.total) (pos l.b.total) ∷ []);
}
