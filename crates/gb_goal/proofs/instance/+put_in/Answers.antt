use Rattle.std.proofs.Common.{map, refl, rules, ap, ◌∙◌}
use Rattle.gb_goal.specs.Instances.{put_in, stands_for}
use Rattle.gb_goal.proofs.Instances.{applied_in, images_next}
use Rattle.gb_goal.proofs.instance.+put_in.Goals as goal

pub put_in-returns-in_ok-more-in-Apply : goal.put_in-returns-in_ok-more-in-Apply
put_in-returns-in_ok-more-in-Apply t c =
    let x = c.in-Apply in
    let f = stands_for c.args.params.now c.args.args.now in
    let e = ap (put_in f) x.is ∙ applied_in f x.name x.inner in
    search (rules, e)

pub put_in_all-loop-e-preserved : goal.put_in_all-loop-e-preserved
put_in_all-loop-e-preserved t c =
    let f = put_in (stands_for c.args.params.now c.args.args.now) in
    let l = c.loop-e in
    images_next (map f) f (λ x xs. refl) c.args.list.now l.e-index c.e-item.result l.out c.push.new.self c.in_ok-put_in.field-0 c.loop-e-test.true c.e-item.is c.in_ok-push.ensures.ok
    c.in_ok-put_in.ensures l.invariant
