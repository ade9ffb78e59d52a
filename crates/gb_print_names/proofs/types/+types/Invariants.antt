use Rattle.std.proofs.Common.{◌≡◌, map, codes, drop}
use Rattle.gb_print_names.specs.Text.{◌▸◌, each, word}
use Rattle.gb_print_names.specs.Types.{operand, type_part}
use Rattle.gb_print_names.proofs.types.+types.Given as goal

abbrev pub invariant-put_product-loop-part : goal.invariant-put_product-loop-part
invariant-put_product-loop-part l =
    each (λ t. word (codes " * ") ▸ operand t l.bound) (map type_part (drop l.part-index l.rest)) l.text ≡ each (λ t. word (codes " * ") ▸ operand t l.bound) (map type_part l.rest) l.initial.text
