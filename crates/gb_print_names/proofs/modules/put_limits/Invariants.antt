use Rattle.std.proofs.Common.{◌≡◌, codes, drop}
use Rattle.gb_print_names.specs.Text.{◌▸◌, each, word}
use Rattle.gb_print_names.specs.Modules.{limit}
use Rattle.gb_print_names.proofs.modules.put_limits.Given as goal

abbrev pub invariant-loop-b : goal.invariant-loop-b
invariant-loop-b l =
    each (λ x. word (codes ", ") ▸ limit l.bound x) (drop l.b-index l.rest) l.text ≡ each (λ x. word (codes ", ") ▸ limit l.bound x) l.rest l.initial.text
