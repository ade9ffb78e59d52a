use Rattle.std.proofs.Common.{◌≡◌, drop}
use Rattle.gb_print_names.specs.Text.{each}
use Rattle.gb_print.specs.GoalText.{variable_line}
use Rattle.gb_print.proofs.goal.put_variables.Given as goal

abbrev pub invariant-loop-x : goal.invariant-loop-x
invariant-loop-x l = record {
  same : l.page.bound ≡ l.initial.page.bound;
  text : each (variable_line l.initial.page.bound) (drop l.x-index l.list) l.page.text ≡ each (variable_line l.initial.page.bound) l.list l.initial.page.text;
}
