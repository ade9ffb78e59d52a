use Rattle.std.proofs.Common.{◌≡◌, codes, drop}
use Rattle.gb_print_names.specs.Text.{◌▸◌, each, word}
use Rattle.gb_print_names.specs.BoundNames.{place}
use Rattle.gb_print.specs.FormText.{arguments, all_shown, further, instr_text}
use Rattle.gb_print.proofs.form.+forms.Given as goal

abbrev pub invariant-put_arguments-loop-i : goal.invariant-put_arguments-loop-i
invariant-put_arguments-loop-i l = record {
  same : l.page.bound ≡ l.initial.page.bound;
  text : arguments l.head l.first l.i (all_shown (drop l.i l.args)) l.known (place l.at l.initial.page.bound) l.page.text
      ≡ arguments l.head l.first 0 (all_shown l.args) l.known (place l.at l.initial.page.bound) l.initial.page.text;
}

abbrev pub invariant-put_body-loop-i : goal.invariant-put_body-loop-i
invariant-put_body-loop-i l = record {
  same : l.page.bound ≡ l.initial.page.bound;
  text : each (λ i. word (codes " ") ▸ instr_text i (place l.at l.initial.page.bound)) (drop l.i-index l.c.list) l.page.text
      ≡ each (λ i. word (codes " ") ▸ instr_text i (place l.at l.initial.page.bound)) l.c.list l.initial.page.text;
}

abbrev pub invariant-put_given-loop-t : goal.invariant-put_given-loop-t
invariant-put_given-loop-t l = record {
  same : l.page.bound ≡ l.initial.page.bound;
  text : each (further (place l.at l.initial.page.bound)) (all_shown (drop l.t-index l.rest)) l.page.text
      ≡ each (further (place l.at l.initial.page.bound)) (all_shown l.rest) l.initial.page.text;
}
