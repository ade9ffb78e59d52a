use Rattle.std.proofs.Common.{◌≡◌, ◌^◌, [], min, sym, ap, ◌∙◌, subst, IfOk, arith}
use Rattle.gb_eval.proofs.Fuel.{opens}
use Rattle.gb_smt.specs.Width.{bound_in}
use Rattle.gb_smt.proofs.Scripts.{open_bound, closed_bound}
use Rattle.gb_equality.proofs.Products.{product}
use Rattle.gb_smt.proofs.Sizes.{product_bound, product_bound_more}
use Rattle.gb_smt.proofs.width.+bound_size.Goals as goal

pub bound_size-returns : goal.bound_size-returns
bound_size-returns t c =
    product_bound (bound_in c.args.script.now) c.args.t.now c.get-head.result.now c.as_slice-args.result.now _ _ _ _ _ c.get-head.ensures c.as_slice-args.ensures
    c.in_ok-own.ensures c.in_ok-memory.ensures c.in_ok-others.ensures c.times-inner.ensures c.times.ensures

pub bound_size_of_all-loop-t-preserved : goal.bound_size_of_all-loop-t-preserved
bound_size_of_all-loop-t-preserved t c =
    product_bound_more (bound_in c.args.script.now) c.args.list.now c.loop-t.t-index c.t-item.result _ _ _ c.loop-t-test.true c.t-item.is c.loop-t.invariant c.in_ok-one.ensures c.times-all.ensures

pub bound_size_of_operator-returns-in-Some : goal.bound_size_of_operator-returns-in-Some
bound_size_of_operator-returns-in-Some t c =
    subst (λ ts. IfOk c.bound_size.result (λ n. n ≡ min (product ts) (2 ^ 63)))
    (sym (open_bound c.args.script.now c.args.name.now c.inside.result c.in-Some.body.now c.in-Some.ensures c.inside.ensures.scope c.inside.ensures.depth)) c.bound_size.ensures

pub bound_size_of_operator-returns-in-None : goal.bound_size_of_operator-returns-in-None
bound_size_of_operator-returns-in-None t c =
    let one : 1 ≡ min (product []) (2 ^ 63) = omega arith in
    one ∙ ap (λ ts. min (product ts) (2 ^ 63)) (sym (closed_bound c.args.script.now c.args.name.now c.in-None.ensures))

pub bound_size_of_operator-bound_size-requires : goal.bound_size_of_operator-bound_size-requires
bound_size_of_operator-bound_size-requires t c =
    ((let f = opens c.args.script.now c.inside.result c.args.name.now c.in-Some.body.now c.in-Some.ensures c.inside.ensures.scope c.inside.ensures.depth in omega arith), tt)
