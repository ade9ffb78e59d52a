use Rattle.std.proofs.Common.{◌∙◌}
use Rattle.std.proofs.lemmas.Result.{IfOk-weaker}
use Rattle.gb_adv.specs.Returns.{after_where, returns_seen}
use Rattle.gb_adv.proofs.ReturnSteps.{both_as_read}
use Rattle.gb_adv.proofs.returns.after_calls.Goals as goal

pub returns : goal.returns
returns c =
    let o = returns_seen c.args.returns.now in
    let i = c.args.kept.now in
    let q = c.args.form.now in
    let r = c.requires in
    IfOk-weaker c.after_where.result _ _
    (λ made h. h ∙ (λ t. after_where (c.in_ok-returned.ensures t) (c.in_ok-owner.ensures t) o i q) ∙ both_as_read o i q _ _ _ _ r.left_said r.left_later r.right_said r.right_later r.on_left r.on_right)
    c.after_where.ensures
