use Rattle.std.proofs.Common.{◌<◌, length, get_or, sym, ap, ◌∙◌, arith}
use Rattle.gb_labels.specs.Things.{with_one}
use Rattle.gb_labels.proofs.Counted.{counted_there, counted_behind, counted_new}
use Rattle.gb_labels.proofs.labels.with_one.Goals as goal

pub returns-then-eq : goal.returns-then-eq
returns-then-eq c =
    let within : c.loop-at.at < length c.loop-at.list = omega (arith, c.loop-at-test.true, c.loop-at.invariant.end) in
    counted_there c.loop-at.list c.loop-at.at c.index-as_slice-at.result c.args.name.now within (c.index-as_slice-at.is ∙ ap (λ xs. get_or xs c.loop-at.at c.index-as_slice-at.result) c.as_slice.ensures)
    (with_one c.args.list c.args.name.now) c.set.new.self c.in_ok-more.more (sym c.eq.ensures ∙ c.if-eq.true) c.in_ok-more.ensures c.set.ensures c.loop-at.invariant.so_far

pub loop-at-preserved : goal.loop-at-preserved
loop-at-preserved c =
    let within : c.loop-at.at < length c.loop-at.list = omega (arith, c.loop-at-test.true, c.loop-at.invariant.end) in
    record {
      end = c.loop-at.invariant.end;
      so_far = counted_behind c.loop-at.list c.loop-at.at c.index-as_slice-at.result c.args.name.now within (c.index-as_slice-at.is ∙ ap (λ xs. get_or xs c.loop-at.at c.index-as_slice-at.result) c.as_slice.ensures)
          (with_one c.args.list c.args.name.now) (sym c.eq.ensures ∙ c.if-eq.false) c.loop-at.invariant.so_far;
    }

pub returns : goal.returns
returns c =
    counted_new c.loop-at.list (with_one c.args.list c.args.name.now) c.push.new.self c.loop-at.at c.args.name.now c.in_ok-name.name (omega (arith, c.loop-at-test.false, c.loop-at.invariant.end)) c.in_ok-name.ensures c.in_ok-push.ensures.ok c.loop-at.invariant.so_far
