use Rattle.std.proofs.Common.{◌≡◌, ℕ, List, false, ap, sym, ◌∙◌, arith}
use borrow.Author.Count.{below_more}
use Rattle.gb_limits.specs.LeftOut.{is_left_out, left_out_at}
use Rattle.gb_script.specs.Text.{name_at}
use Rattle.gb_limits.proofs.left_out.first_left_out.Goals as goal

pub loop-at-init : goal.loop-at-init
loop-at-init c = λ j h. absurd (omega arith)

pub loop-at-preserved : goal.loop-at-preserved
loop-at-preserved c =
    let before = ap (λ (b : List ℕ). is_left_out b (name_at c.args.text.now c.loop-at.at)) (sym c.name_before.ensures) in
    let name = ap (is_left_out c.name_before.result.now) (sym c.name_at.ensures) in
    below_more (λ (j : ℕ). left_out_at c.args.text.now j ≡ false) c.loop-at.at c.loop-at.invariant (before ∙ (name ∙ (sym c.is_left_out.ensures ∙ c.if-is_left_out.false)))
