use Rattle.std.proofs.Common.{◌≡◌, codes, drop}
use Rattle.gb_print_names.specs.Text.{◌▸◌, each, word}
use Rattle.gb_print_names.specs.Names.{variable}
use Rattle.gb_print.proofs.form.put_variables.Given as goal

abbrev pub invariant-loop-x : goal.invariant-loop-x
invariant-loop-x l = record {
  same : l.page.bound ≡ l.initial.page.bound;
  text : each (λ x. word (codes ", ") ▸ variable l.initial.page.bound x) (drop l.x-index l.rest) l.page.text
      ≡ each (λ x. word (codes ", ") ▸ variable l.initial.page.bound x) l.rest l.initial.page.text;
}
