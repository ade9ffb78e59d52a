use Rattle.std.proofs.Common.{ap, ◌∙◌, arith}
use Rattle.std.specs.List.{filter}
use Rattle.std.specs.Option.{option_copied}
use Rattle.gb_walk.specs.Clash.{variables_read, clashes_beside, least_from}
use Rattle.gb_walk.proofs.ClashSteps.{found_more}
use Rattle.gb_walk.proofs.clash.+clash.Goals as goal

pub in_terms-loop-i-preserved : goal.in_terms-loop-i-preserved
in_terms-loop-i-preserved t c =
    c.in_term-least.ensures
    ∙ ap (λ o. least_from o (filter (clashes_beside c.args.exclusions.now c.args.x.now) (variables_read c.args.side.now c.index-list-i.result))) c.loop-i.invariant
    ∙ found_more c.args.exclusions.now c.args.side.now (option_copied c.args.found) c.args.x.now c.args.list.now c.loop-i.i c.index-list-i.result (omega (arith, c.requires, c.loop-i-test.true)) c.index-list-i.is
