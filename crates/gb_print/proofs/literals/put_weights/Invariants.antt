use Rattle.std.proofs.Common.{◌≡◌, codes, drop}
use Rattle.gb_print_names.specs.Text.{◌▸◌, each, word}
use Rattle.gb_print.specs.Layout.{weighted}
use Rattle.gb_print.proofs.literals.put_weights.Given as goal

abbrev pub invariant-loop-pair : goal.invariant-loop-pair
invariant-loop-pair l =
    each (λ p. word (codes "; ") ▸ weighted l.enumerations l.t p) (drop l.pair-index l.rest) l.text ≡ each (λ p. word (codes "; ") ▸ weighted l.enumerations l.t p) l.rest l.initial.text
