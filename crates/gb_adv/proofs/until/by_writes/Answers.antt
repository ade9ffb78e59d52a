use Rattle.std.proofs.Common.{◌∙◌}
use Rattle.gb_mods.specs.Exclusions.{exclusions}
use Rattle.gb_call.specs.Call.{unless_clash}
use Rattle.gb_adv.specs.Abstract.{abstract_seen}
use Rattle.gb_adv.specs.Call.{clash_of_both}
use Rattle.gb_adv.specs.Oracles.{meeting_both}
use Rattle.gb_adv.specs.Until.{as_long, by_full}
use Rattle.gb_adv.proofs.CallSteps.{clash_fails, clear_answers}
use Rattle.gb_adv.proofs.until.by_writes.Goals as goal

pub returns-in-Some : goal.returns-in-Some
returns-in-Some c =
    let z = c.args.keeping.now in
    let u = c.args.until.now in
    let k = abstract_seen c.args.left.now in
    let l = abstract_seen c.args.right.now in
    let W = c.args.written.now in
    let U = c.args.others.now in
    clash_fails z.goal.now c.as_slice-excluded.result.now (exclusions z.scope.now) (c.as_slice-excluded.ensures ∙ c.in_ok-excluded.ensures) (λ xs. meeting_both xs k.called.owner (as_long u u.kept) W U)
    (λ xs. unless_clash (clash_of_both xs k l z.kept.now z.post.now W U) (by_full z.scope.now u z.kept.now k l z.pre.now z.post.now W U))
    c.in_ok-var.field-0 c.in_ok-var.ensures c.in-Some.var c.refusal.result c.in-Some.is c.refusal.ensures

pub returns : goal.returns
returns c =
    let z = c.args.keeping.now in
    let u = c.args.until.now in
    let k = abstract_seen c.args.left.now in
    let l = abstract_seen c.args.right.now in
    let W = c.args.written.now in
    let U = c.args.others.now in
    clear_answers z.goal.now c.as_slice-excluded.result.now (exclusions z.scope.now) (c.as_slice-excluded.ensures ∙ c.in_ok-excluded.ensures) (λ xs. meeting_both xs k.called.owner (as_long u u.kept) W U)
    (λ xs. unless_clash (clash_of_both xs k l z.kept.now z.post.now W U) (by_full z.scope.now u z.kept.now k l z.pre.now z.post.now W U))
    c.in_ok-var.field-0 c.in_ok-var.ensures c.by_clash.result c.in_default.not-Some c.by_clash.ensures
