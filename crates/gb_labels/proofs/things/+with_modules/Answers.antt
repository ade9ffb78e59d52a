use Rattle.std.proofs.Common.{◌≡◌, map, sym, ap, subst, IfOk, ◌∙◌}
use Rattle.std.specs.Option.{option_map}
use Rattle.gb_labels.specs.Things.{all_names, counted, modules_of}
use Rattle.gb_labels.proofs.Parts.{modules_tuple}
use Rattle.gb_labels.proofs.Counted.{counted_more, counted_stop}
use Rattle.gb_labels.proofs.things.+with_modules.Goals as goal

pub with_modules-returns-in-Tuple : goal.with_modules-returns-in-Tuple
with_modules-returns-in-Tuple t c =
    subst (λ o. IfOk c.with_modules_of.result (λ made. made ≡ option_map (counted c.args.counts) o))
    (ap (λ us. all_names (map modules_of us)) c.as_slice.ensures ∙ sym (modules_tuple c.args.ty.now c.in-Tuple.parts c.in-Tuple.is)) c.with_modules_of.ensures

pub with_modules_of-returns-in-None : goal.with_modules_of-returns-in-None
with_modules_of-returns-in-None t c =
    counted_stop modules_of c.loop-part.counts c.args.parts.now c.loop-part.part-index c.part-item.result c.loop-part-test.true c.part-item.is (sym c.in-None.is ∙ c.in_ok-more.ensures)
    ∙ c.loop-part.invariant

pub with_modules_of-loop-part-preserved : goal.with_modules_of-loop-part-preserved
with_modules_of-loop-part-preserved t c =
    counted_more modules_of c.loop-part.counts c.args.parts.now c.loop-part.part-index c.part-item.result c.loop-part-test.true c.part-item.is c.in-Some.more (sym c.in-Some.is ∙ c.in_ok-more.ensures)
    ∙ c.loop-part.invariant
