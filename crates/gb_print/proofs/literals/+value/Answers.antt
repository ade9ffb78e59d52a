use Rattle.std.proofs.Common.{rules, codes, ap, ◌∙◌}
use Rattle.gb_print_names.specs.Text.{◌▸◌, word}
use Rattle.gb_print.specs.Layout.{value_text}
use Rattle.gb_print_names.proofs.Lists.{each_made_more}
use Rattle.gb_print.proofs.Values.{many_is}
use Rattle.gb_print.proofs.literals.+value.Goals as goal

pub put_value-returns-in_ok-put_values-in-Many : goal.put_value-returns-in_ok-put_values-in-Many
put_value-returns-in_ok-put_values-in-Many t c =
    let e = ap (λ v. value_text v c.args.text.now) c.in-Many.is ∙ many_is c.in-Many.parts c.args.text.now in search (rules, e)

pub put_values-loop-value-preserved : goal.put_values-loop-value-preserved
put_values-loop-value-preserved t c =
    each_made_more _ c.loop-value.value-index c.value-item.result c.loop-value-test.true c.value-item.is value_text (λ w. word (codes ", ") ▸ w) c.loop-value.text _ _
    (c.in_ok-put_value-2.ensures ∙ ap (value_text c.value-item.result) c.in_ok-put.ensures) c.loop-value.invariant
