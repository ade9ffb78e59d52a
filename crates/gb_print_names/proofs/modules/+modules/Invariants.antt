use Rattle.std.proofs.Common.{◌≡◌, map, codes, drop}
use Rattle.gb_print_names.specs.Text.{◌▸◌, each, word}
use Rattle.gb_print_names.specs.Modules.{module_text}
use Rattle.gb_print_names.proofs.modules.+modules.Given as goal

abbrev pub invariant-put_modules-loop-m : goal.invariant-put_modules-loop-m
invariant-put_modules-loop-m l =
    each (λ m. word (codes ", ") ▸ m l.bound) (map module_text (drop l.m-index l.rest)) l.text ≡ each (λ m. word (codes ", ") ▸ m l.bound) (map module_text l.rest) l.initial.text
