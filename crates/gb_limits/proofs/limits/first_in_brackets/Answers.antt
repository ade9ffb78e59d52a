use Rattle.std.proofs.Common.{◌≤◌, ◌<◌, ℕ, ap, sym, subst, ◌∙◌, arith}
use borrow.Author.Count.{below_more}
use Rattle.gb_limits.specs.declared.limits.TheConstants.{LEVELS}
use Rattle.gb_limits.specs.Level.{bracket_of}
use Rattle.gb_limits.specs.Limits.{depth_at}
use Rattle.gb_limits.proofs.Nesting.{depth_behind, brackets_step}
use Rattle.gb_limits.proofs.limits.first_in_brackets.Goals as goal

pub returns-then-depth-gt-LEVELS : goal.returns-then-depth-gt-LEVELS
returns-then-depth-gt-LEVELS c =
    let t = c.args.text.now in
    let s = c.args._steps.now in
    let next = brackets_step t s c.args.fault c.loop-at.at c.loop-at.depth c.brackets_after-depth.result c.bracket_of.result c.loop-at.auto.at c.loop-at.invariant.depth_is (c.bracket_of.ensures ∙ ap bracket_of c.terminal_at.ensures) c.brackets_after-depth.ensures in
    record {
      within = omega (arith, c.len-at-end.ensures);
      here = subst (λ (n : ℕ). LEVELS < n) (next ∙ sym (depth_behind t s c.args.fault c.loop-at.at c.loop-at.auto.at)) c.if-depth-gt-LEVELS.true;
      first = c.loop-at.invariant.before;
    }

pub loop-at-preserved : goal.loop-at-preserved
loop-at-preserved c =
    let t = c.args.text.now in
    let s = c.args._steps.now in
    let next = brackets_step t s c.args.fault c.loop-at.at c.loop-at.depth c.brackets_after-depth.result c.bracket_of.result c.loop-at.auto.at c.loop-at.invariant.depth_is (c.bracket_of.ensures ∙ ap bracket_of c.terminal_at.ensures) c.brackets_after-depth.ensures in
    record {
      depth_is = next;
      few = c.if-depth-gt-LEVELS.false;
      before = below_more (λ (j : ℕ). depth_at t s c.args.fault j ≤ LEVELS) c.loop-at.at c.loop-at.invariant.before
          (subst (λ (n : ℕ). n ≤ LEVELS) (next ∙ sym (depth_behind t s c.args.fault c.loop-at.at c.loop-at.auto.at)) c.if-depth-gt-LEVELS.false);
    }
