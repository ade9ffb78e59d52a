use Rattle.std.proofs.Common.{sym, ap, ◌∙◌}
use Rattle.std.specs.Option.{option_map}
use Rattle.gb_labels.specs.Things.{counted, modules_of}
use Rattle.gb_labels.proofs.Counted.{counted_more, counted_stop}
use Rattle.gb_labels.proofs.things.number_of_things.Goals as goal

pub returns-in-None : goal.returns-in-None
returns-in-None c =
    counted_stop (λ x. modules_of x.ty) c.loop-thing.counts c.args.list.now c.loop-thing.thing-index c.thing-item.result c.loop-thing-test.true c.thing-item.is
    (sym c.in-None.is ∙ c.in_ok-more.ensures ∙ ap (λ u. option_map (counted c.loop-thing.counts) (modules_of u)) c.get.ensures)
    ∙ c.loop-thing.invariant

pub loop-thing-preserved : goal.loop-thing-preserved
loop-thing-preserved c =
    counted_more (λ x. modules_of x.ty) c.loop-thing.counts c.args.list.now c.loop-thing.thing-index c.thing-item.result c.loop-thing-test.true c.thing-item.is c.in-Some.more
    (sym c.in-Some.is ∙ c.in_ok-more.ensures ∙ ap (λ u. option_map (counted c.loop-thing.counts) (modules_of u)) c.get.ensures)
    ∙ c.loop-thing.invariant
