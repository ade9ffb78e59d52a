use Rattle.std.proofs.Common.{◌≡◌, codes, drop}
use Rattle.gb_print_names.specs.Text.{◌▸◌, each, word}
use Rattle.gb_print_names.proofs.modules.put_group.Given as goal

abbrev pub invariant-loop-name : goal.invariant-loop-name
invariant-loop-name l =
    each (λ x. word (codes " + ") ▸ word x) (drop l.name-index l.rest) l.text ≡ each (λ x. word (codes " + ") ▸ word x) l.rest l.initial.text
