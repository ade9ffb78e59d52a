use Rattle.std.proofs.Common.{codes, ap, ◌∙◌}
use Rattle.gb_print_names.specs.Text.{◌▸◌, word}
use Rattle.gb_print_names.specs.Types.{operand, type_part, type_operand}
use Rattle.gb_print_names.proofs.Lists.{each_made_more}
use Rattle.gb_print_names.proofs.types.+types.Goals as goal

pub put_product-loop-part-preserved : goal.put_product-loop-part-preserved
put_product-loop-part-preserved t c =
    each_made_more _ c.loop-part.part-index c.part-item.result c.loop-part-test.true c.part-item.is type_part (λ t. word (codes " * ") ▸ operand t c.args.bound.now) c.loop-part.text _ _
    (c.in_ok-put_type_operand-2.ensures ∙ ap (type_operand c.part-item.result c.args.bound.now) c.in_ok-put.ensures) c.loop-part.invariant
