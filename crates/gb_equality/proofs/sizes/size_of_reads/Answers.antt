use Rattle.std.proofs.Common.{◌^◌, ap, ◌∙◌, min}
use Rattle.gb_core.specs.Types.{size_of}
use Rattle.gb_equality.proofs.Products.{product_more}
use Rattle.gb_equality.proofs.sizes.size_of_reads.Goals as goal

pub loop-variable-preserved : goal.loop-variable-preserved
loop-variable-preserved c =
    product_more (λ v. v.ty) c.args.variables.now c.loop-variable.variable-index c.variable-item.result _ _ _ c.loop-variable-test.true c.variable-item.is c.loop-variable.invariant
    (c.size.ensures ∙ ap (λ ty. min (size_of ty) (2 ^ 63)) c.get.ensures)
    c.times-all.ensures
