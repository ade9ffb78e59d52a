use Rattle.std.proofs.Common.{codes, ap, ◌∙◌}
use Rattle.gb_print_names.specs.Text.{◌▸◌, word}
use Rattle.gb_print_names.specs.Modules.{limit}
use Rattle.gb_print_names.proofs.Lists.{each_more}
use Rattle.gb_print_names.proofs.modules.put_limits.Goals as goal

pub loop-b-preserved : goal.loop-b-preserved
loop-b-preserved c =
    let one = limit c.args.bound.now in
    each_more _ c.loop-b.b-index c.b-item.result c.loop-b-test.true c.b-item.is (λ x. word (codes ", ") ▸ one x) c.loop-b.text _ _
    (c.in_ok-put_limit-2.ensures ∙ ap (one c.b-item.result) c.in_ok-put-2.ensures) c.loop-b.invariant
