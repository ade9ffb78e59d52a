use Rattle.std.proofs.Common.{codes, ap, ◌∙◌}
use Rattle.gb_print_names.specs.Text.{◌▸◌, word}
use Rattle.gb_print_names.specs.Modules.{excluded}
use Rattle.gb_print_names.proofs.Lists.{each_more}
use Rattle.gb_print_names.proofs.modules.put_restriction.Goals as goal

pub loop-name-preserved : goal.loop-name-preserved
loop-name-preserved c =
    let one = excluded c.args.bound.now in
    each_more _ c.loop-name.name-index c.name-item.result c.loop-name-test.true c.name-item.is (λ x. word (codes ", ") ▸ one x) c.loop-name.text _ _
    (c.in_ok-put_excluded-2.ensures ∙ ap (one c.name-item.result) c.in_ok-put-2.ensures) c.loop-name.invariant
