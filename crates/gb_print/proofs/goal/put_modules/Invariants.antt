use Rattle.std.proofs.Common.{◌≡◌, drop}
use Rattle.gb_print_names.specs.Text.{each}
use Rattle.gb_print.specs.GoalText.{module_line}
use Rattle.gb_print.proofs.goal.put_modules.Given as goal

abbrev pub invariant-loop-bind : goal.invariant-loop-bind
invariant-loop-bind l = record {
  same : l.page.bound ≡ l.initial.page.bound;
  text : each (module_line l.initial.page.bound) (drop l.bind-index l.list) l.page.text ≡ each (module_line l.initial.page.bound) l.list l.initial.page.text;
}
