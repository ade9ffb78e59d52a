use Rattle.std.proofs.Common.{◌≡◌, rules, ap, sym, ◌∙◌}
use Rattle.gb_bodies.specs.Wp.{before}
use Rattle.gb_bodies.proofs.WpSteps.{before_if, before_last_at}
use Rattle.gb_bodies.proofs.wp.+wp.Goals as goal

pub before-returns-in_err-yes-in-If : goal.before-returns-in_err-yes-in-If
before-returns-in_err-yes-in-If t c =
    let x = c.in-If in
    let e = ap (λ i. before c.args.exclusions.now c.args.side i c.args.post.now) x.is ∙ before_if c.args.exclusions.now c.args.side x.test x.yes x.no c.args.post.now in search (rules, e)

pub before-returns-in_err-no-in-If : goal.before-returns-in_err-no-in-If
before-returns-in_err-no-in-If t c =
    let x = c.in-If in
    let e = ap (λ i. before c.args.exclusions.now c.args.side i c.args.post.now) x.is ∙ before_if c.args.exclusions.now c.args.side x.test x.yes x.no c.args.post.now in search (rules, e)

pub before-returns-in_ok-by_test-in-If : goal.before-returns-in_ok-by_test-in-If
before-returns-in_ok-by_test-in-If t c =
    let x = c.in-If in
    let e = ap (λ i. before c.args.exclusions.now c.args.side i c.args.post.now) x.is ∙ before_if c.args.exclusions.now c.args.side x.test x.yes x.no c.args.post.now in search (rules, e)

pub before_all-returns-in_err-form-2 : goal.before_all-returns-in_err-form-2
before_all-returns-in_err-form-2 t c =
    let e = sym c.loop-k.invariant ∙ before_last_at c.args.list.now c.loop-k.k c.loop-k-test.true c.index-list-at.result c.index-list-at.is c.args.exclusions.now c.args.side c.loop-k.form in search (rules, e)

pub before_all-loop-k-preserved : goal.before_all-loop-k-preserved
before_all-loop-k-preserved t c =
    let e = sym c.loop-k.invariant ∙ before_last_at c.args.list.now c.loop-k.k c.loop-k-test.true c.index-list-at.result c.index-list-at.is c.args.exclusions.now c.args.side c.loop-k.form in search (rules, e)
