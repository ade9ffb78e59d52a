use Rattle.std.proofs.Common.{◌≡◌, drop}
use Rattle.gb_print_names.specs.Text.{each}
use Rattle.gb_print_names.specs.BoundNames.{place}
use Rattle.gb_print.specs.GoalText.{hypothesis_line}
use Rattle.gb_print.proofs.goal.put_hypotheses.Given as goal

abbrev pub invariant-loop-hyp : goal.invariant-loop-hyp
invariant-loop-hyp l = record {
  same : l.page.bound ≡ l.initial.page.bound;
  text : each (hypothesis_line (place l.at l.initial.page.bound)) (drop l.hyp-index l.list) l.page.text ≡ each (hypothesis_line (place l.at l.initial.page.bound)) l.list l.initial.page.text;
}
