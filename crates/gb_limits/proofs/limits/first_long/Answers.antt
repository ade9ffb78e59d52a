use Rattle.std.proofs.Common.{◌≡◌, ℕ, false, ap, sym, ◌∙◌, arith}
use borrow.Author.Count.{below_more}
use Rattle.gb_limits.specs.Limits.{Walk, is_too_many}
use Rattle.gb_limits.proofs.Nesting.{walked-start, levels_over, rest_over, too_many_at}
use Rattle.gb_limits.proofs.limits.first_long.Goals as goal

pub loop-at-init : goal.loop-at-init
loop-at-init c = record {
  levels_are = c.in_ok-levels.ensures;
  rest_is = sym (ap (λ (w : Walk). w.rest) (walked-start c.args.text.now c.args.steps.now));
  short = λ j h. absurd (omega arith);
}

pub returns-then-passed : goal.returns-then-passed
returns-then-passed c =
    let so = c.loop-at.invariant in
    let here = too_many_at c.args.text.now c.args.steps.now c.loop-at.at c.loop-at.levels c.loop-at.rest.now so.levels_are so.rest_is in
    record {
      within = omega (arith, c.len-at-end.ensures);
      here = sym here ∙ (sym c.in_ok-passed.ensures.long ∙ c.if-passed.true);
      first = so.short;
    }

pub loop-at-preserved : goal.loop-at-preserved
loop-at-preserved c =
    let so = c.loop-at.invariant in
    let t = c.args.text.now in
    let s = c.args.steps.now in
    let here = too_many_at t s c.loop-at.at c.loop-at.levels c.loop-at.rest.now so.levels_are so.rest_is in
    record {
      levels_are = levels_over t s c.loop-at.at c.loop-at.levels _ c.loop-at.rest.now so.levels_are so.rest_is c.in_ok-passed.ensures.levels;
      rest_is = rest_over t s c.loop-at.at c.loop-at.levels c.loop-at.rest.now _ so.levels_are so.rest_is c.in_ok-passed.ensures.rest;
      short = below_more (λ (j : ℕ). is_too_many t s j ≡ false) c.loop-at.at so.short (sym here ∙ (sym c.in_ok-passed.ensures.long ∙ c.if-passed.false));
    }
