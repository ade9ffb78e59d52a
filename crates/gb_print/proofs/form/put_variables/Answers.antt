use Rattle.std.proofs.Common.{codes, ap, ◌∙◌}
use Rattle.gb_print_names.specs.Text.{◌▸◌, word}
use Rattle.gb_print_names.specs.Names.{variable}
use Rattle.gb_print_names.proofs.Lists.{each_more}
use Rattle.gb_print.proofs.form.put_variables.Goals as goal

pub loop-x-preserved : goal.loop-x-preserved
loop-x-preserved c =
    let same = c.loop-x.invariant.same in
    record {
      same = same;
      text =
          each_more _ c.loop-x.x-index c.x-item.result c.loop-x-test.true c.x-item.is (λ x. word (codes ", ") ▸ variable c.args.page.now.bound x) c.loop-x.page.text _ _
          (c.in_ok-put_variable-2.ensures ∙ ap (variable c.loop-x.page.bound c.x-item.result) c.in_ok-put.ensures
          ∙ ap (λ b. variable b c.x-item.result (word (codes ", ") c.loop-x.page.text)) same)
          c.loop-x.invariant.text;
    }
