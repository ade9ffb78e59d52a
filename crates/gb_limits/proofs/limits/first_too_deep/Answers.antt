use Rattle.std.proofs.Common.{◌≡◌, ◌≤◌, ℕ, List, length, sym, ap, ◌∙◌, arith}
use borrow.Author.Count.{below_more}
use Rattle.gb_limits.specs.declared.level.Level.{Level}
use Rattle.gb_limits.specs.declared.limits.TheConstants.{LEVELS}
use Rattle.gb_limits.specs.Level.{open_brackets}
use Rattle.gb_limits.specs.Limits.{Walk, walked, depth_at}
use Rattle.gb_limits.proofs.Nesting.{walked-start, levels_over, rest_over, depth_of_levels, brackets_behind-start}
use Rattle.gb_limits.proofs.limits.first_too_deep.Goals as goal

pub loop-at-init : goal.loop-at-init
loop-at-init c =
    let start = walked-start c.args.text.now c.args.steps.now in
    let one : length c.in_ok-levels.levels ≡ 1 = ap (λ (l : List Level). length l) (c.in_ok-levels.ensures ∙ ap (λ (w : Walk). w.levels) start) in
    record {
      levels_are = c.in_ok-levels.ensures;
      rest_is = sym (ap (λ (w : Walk). w.rest) start);
      few = omega (arith, one);
      before = λ j h. absurd (omega arith);
    }

pub returns-then-len : goal.returns-then-len
returns-then-len c =
    let so = c.loop-at.invariant in
    let levels = levels_over c.args.text.now c.args.steps.now c.loop-at.at c.loop-at.levels _ c.loop-at.rest.now so.levels_are so.rest_is c.in_ok-passed.ensures.levels in
    let d = depth_of_levels c.args.text.now c.args.steps.now c.args.fault c.loop-at.at _ c.loop-at-test.true levels in
    let n = c.len.ensures in
    let h = c.if-len.true in
    record {
      within = omega (arith, c.requires);
      here = omega (arith, d, n, h);
      first = so.before;
    }

pub loop-at-preserved : goal.loop-at-preserved
loop-at-preserved c =
    let so = c.loop-at.invariant in
    let t = c.args.text.now in
    let s = c.args.steps.now in
    let levels = levels_over t s c.loop-at.at c.loop-at.levels _ c.loop-at.rest.now so.levels_are so.rest_is c.in_ok-passed.ensures.levels in
    let d = depth_of_levels t s c.args.fault c.loop-at.at _ c.loop-at-test.true levels in
    let n = c.len.ensures in
    let h = c.if-len.false in
    record {
      levels_are = levels;
      rest_is = rest_over t s c.loop-at.at c.loop-at.levels c.loop-at.rest.now _ so.levels_are so.rest_is c.in_ok-passed.ensures.rest;
      few = omega (arith, n, h);
      before = below_more (λ (j : ℕ). depth_at t s c.args.fault j ≤ LEVELS) c.loop-at.at so.before (omega (arith, d, n, h));
    }

pub first_in_brackets-requires-clause-depth : goal.first_in_brackets-requires-clause-depth
first_in_brackets-requires-clause-depth c =
    let t = c.args.text.now in
    let s = c.args.steps.now in
    let here : c.loop-at.at ≡ c.args.fault = omega arith in
    c.open_brackets-depth.ensures
    ∙ (ap open_brackets (c.loop-at.invariant.levels_are ∙ ap (λ (i : ℕ). (walked t s i).levels) here) ∙ sym (brackets_behind-start t s c.args.fault))
