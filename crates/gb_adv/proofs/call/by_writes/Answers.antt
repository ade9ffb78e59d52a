use Rattle.std.proofs.Common.{◌∙◌}
use Rattle.gb_terms.specs.declared.op.Side.TheVariants.{Left, Right}
use Rattle.gb_mods.specs.Exclusions.{exclusions}
use Rattle.gb_call.specs.Call.{unless_clash}
use Rattle.gb_adv.specs.Abstract.{abstract_seen}
use Rattle.gb_adv.specs.Call.{both_goals, clash_of_both, read_after}
use Rattle.gb_adv.specs.Oracles.{meeting_both}
use Rattle.gb_adv.proofs.CallSteps.{clash_fails, clear_answers}
use Rattle.gb_adv.proofs.call.by_writes.Goals as goal

pub returns-in-Some : goal.returns-in-Some
returns-in-Some c =
    let z = c.args.keeping.now in
    let k = abstract_seen c.args.left.now in
    let l = abstract_seen c.args.right.now in
    let W = c.args.written.now in
    let U = c.args.others.now in
    clash_fails z.goal.now c.as_slice-excluded.result.now (exclusions z.scope.now) (c.as_slice-excluded.ensures ∙ c.in_ok-excluded.ensures) (λ xs. meeting_both xs k.called.owner z.kept.now W U)
    (λ xs. unless_clash (clash_of_both xs k l z.kept.now z.post.now W U) (both_goals z.scope.now k l z.kept.now z.pre.now z.post.now (read_after z.scope.now Left k z.kept.now z.post.now W) (read_after z.scope.now Right l z.kept.now z.post.now U)))
    c.in_ok-var.field-0 c.in_ok-var.ensures c.in-Some.var c.refusal.result c.in-Some.is c.refusal.ensures

pub returns : goal.returns
returns c =
    let z = c.args.keeping.now in
    let k = abstract_seen c.args.left.now in
    let l = abstract_seen c.args.right.now in
    let W = c.args.written.now in
    let U = c.args.others.now in
    clear_answers z.goal.now c.as_slice-excluded.result.now (exclusions z.scope.now) (c.as_slice-excluded.ensures ∙ c.in_ok-excluded.ensures) (λ xs. meeting_both xs k.called.owner z.kept.now W U)
    (λ xs. unless_clash (clash_of_both xs k l z.kept.now z.post.now W U) (both_goals z.scope.now k l z.kept.now z.pre.now z.post.now (read_after z.scope.now Left k z.kept.now z.post.now W) (read_after z.scope.now Right l z.kept.now z.post.now U)))
    c.in_ok-var.field-0 c.in_ok-var.ensures c.by_clash.result c.in_default.not-Some c.by_clash.ensures
