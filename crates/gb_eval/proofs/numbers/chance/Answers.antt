use Rattle.std.proofs.Common.{ap, sym, ◌∙◌, arith}
use Rattle.std.specs.Int.{w128}
use Rattle.std.proofs.lemmas.Int.{to_z_pos}
use Rattle.gb_dist.specs.Fractions.{of_whole, over, reduced}
use Rattle.gb_dist.specs.Operations.{over_steps}
use Rattle.gb_eval.specs.Findings.{after, shown}
use Rattle.gb_eval.specs.Findings.Finding.{fraction}
use Rattle.gb_eval.proofs.Stops.{chance_by, gives_as}
use Rattle.gb_eval.proofs.numbers.chance.Goals as goal
use mir.Val.{to_z}

pub returns : goal.returns
returns c =
    let w = to_z_pos w128 c.args.weight c.requires.weight in
    let n = to_z_pos w128 c.args.total c.requires.total in
    gives_as shown _ _ c.of_fraction.result
    (chance_by c.args.weight c.args.total (omega (arith, c.if-total-eq0.false)) c.requires.total
    ∙ (λ i. after (over_steps (of_whole (sym w i)) (sym n i)) (fraction (reduced (over (of_whole (sym w i)) (sym n i)))))
    ∙ ap (λ a. after (over_steps a (to_z w128 c.args.total)) (fraction (reduced (over a (to_z w128 c.args.total))))) (sym c.of_whole.ensures))
    (c.of_fraction.ensures (over_steps c.of_whole.result (to_z w128 c.args.total)) (reduced (over c.of_whole.result (to_z w128 c.args.total))) c.div_lit.ensures.exact)
