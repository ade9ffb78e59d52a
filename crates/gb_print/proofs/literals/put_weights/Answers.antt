use Rattle.std.proofs.Common.{codes, ap, ◌∙◌}
use Rattle.gb_print_names.specs.Text.{◌▸◌, word}
use Rattle.gb_print.specs.Layout.{weighted}
use Rattle.gb_print_names.proofs.Lists.{each_more}
use Rattle.gb_print.proofs.literals.put_weights.Goals as goal

pub loop-pair-preserved : goal.loop-pair-preserved
loop-pair-preserved c =
    let one = weighted c.args.enumerations.now c.args.t.now in
    each_more _ c.loop-pair.pair-index c.pair-item.result c.loop-pair-test.true c.pair-item.is (λ p. word (codes "; ") ▸ one p) c.loop-pair.text _ _
    (c.in_ok-put_weighted-2.ensures ∙ ap (one c.pair-item.result) c.in_ok-put.ensures) c.loop-pair.invariant
