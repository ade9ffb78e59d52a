use Rattle.std.proofs.Common.{◌≡◌, ◌<◌, arith}
use Rattle.gb_labels.specs.Labels.{choices}
use Rattle.gb_smt.proofs.Findings.{choice_true, choice_decides, no_choice_decides}
use Rattle.gb_smt.proofs.assign.try_choices.Goals as goal

pub loop-at-preserved : goal.loop-at-preserved
loop-at-preserved c =
    choice_true c.args.scope.now c.args.most.now c.args.claim.now c.loop-at.at c.in_ok-decided.decided c.loop-at.invariant c.in_ok-decided.ensures c.in-True.is

pub returns-in_default : goal.returns-in_default
returns-in_default c =
    let within : c.loop-at.at < choices c.args.most.now = omega (arith, c.choices-count.ensures, c.loop-at-test.true) in
    choice_decides c.args.scope.now c.args.most.now c.args.claim.now c.loop-at.at c.in_ok-decided.decided c.loop-at.invariant c.in_ok-decided.ensures within c.in_default.not-True

pub returns : goal.returns
returns c =
    let all : c.loop-at.at ≡ choices c.args.most.now = omega arith in
    no_choice_decides c.args.scope.now c.args.most.now c.args.claim.now c.loop-at.at all c.loop-at.invariant
