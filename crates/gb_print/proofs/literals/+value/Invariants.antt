use Rattle.std.proofs.Common.{◌≡◌, map, codes, drop}
use Rattle.gb_print_names.specs.Text.{◌▸◌, each, word}
use Rattle.gb_print.specs.Layout.{value_text}
use Rattle.gb_print.proofs.literals.+value.Given as goal

abbrev pub invariant-put_values-loop-value : goal.invariant-put_values-loop-value
invariant-put_values-loop-value l =
    each (λ w. word (codes ", ") ▸ w) (map value_text (drop l.value-index l.rest)) l.text ≡ each (λ w. word (codes ", ") ▸ w) (map value_text l.rest) l.initial.text
