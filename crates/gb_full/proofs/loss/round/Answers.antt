use Rattle.std.proofs.Common.{map, refl, ap, ◌∙◌}
use Rattle.gb_goal.proofs.Instances.{images_next}
use Rattle.gb_full.specs.Loss.{known_seen, procedure_loss, reached_seen, round}
use Rattle.gb_full.proofs.LossSteps.{map_push}
use Rattle.gb_full.proofs.loss.round.Goals as goal

pub loop-x-preserved : goal.loop-x-preserved
loop-x-preserved c =
    let ds = c.args.scope.now in
    let ns = c.args.full.now in
    let ks = map known_seen c.args.known.now in
    let l = c.loop-x in
    images_next (λ xs. round ds ns ks (map reached_seen xs)) (λ x. (x.procedure, procedure_loss ds ns ks x.meant)) (λ x xs. refl) c.args.list.now l.x-index c.x-item.result
    (map known_seen l.all) (map known_seen c.push.new.self) _ c.loop-x-test.true c.x-item.is (ap (map known_seen) c.in_ok-push.ensures.ok ∙ map_push known_seen l.all _)
    (λ i. (c.get-procedure.ensures i, c.loss-loss.ensures i)) l.invariant
