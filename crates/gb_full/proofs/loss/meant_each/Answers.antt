use Rattle.std.proofs.Common.{map, refl, ap, ◌∙◌}
use Rattle.gb_goal.proofs.Instances.{images_next}
use Rattle.gb_mods.specs.Meant.{meant_by}
use Rattle.gb_full.specs.Loss.{meant_each, reached_seen}
use Rattle.gb_full.proofs.LossSteps.{map_push}
use Rattle.gb_full.proofs.loss.meant_each.Goals as goal

pub loop-x-preserved : goal.loop-x-preserved
loop-x-preserved c =
    let ds = c.args.scope.now in
    let l = c.loop-x in
    images_next (meant_each ds) (λ x. (x, meant_by ds x)) (λ x xs. refl) c.args.list.now l.x-index c.x-item.result
    (map reached_seen l.all) (map reached_seen c.push.new.self) _ c.loop-x-test.true c.x-item.is (ap (map reached_seen) c.in_ok-push.ensures.ok ∙ map_push reached_seen l.all _)
    (λ i. (c.in_ok-procedure.ensures i, (c.in_ok-meant.ensures ∙ ap (meant_by ds) c.get.ensures) i)) l.invariant
