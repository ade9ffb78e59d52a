use Rattle.std.proofs.Common.{◌∙◌, ap, subst}
use Rattle.gb_terms.specs.declared.op.Side.TheVariants.{Own}
use Rattle.gb_goal.specs.Answers.{Answers}
use Rattle.gb_goal.specs.Goal.{Goal, form_of}
use Rattle.gb_goal.specs.Goal.Code.{body}
use Rattle.gb_goal.specs.Goal.Goal.{hoare}
use Rattle.gb_goal.specs.Rows.{each_concluding}
use Rattle.gb_full.specs.Lossless.{of_rest}
use Rattle.gb_call.specs.Call.{Callee, before_call, callee_seen}
use Rattle.gb_call.specs.Outcomes.{globals_seen}
use Rattle.gb_call.proofs.call.chances_left.Goals as goal

pub returns : goal.returns
returns c =
    let judged = c.args.judged.now in
    let k : Callee = callee_seen c.args.callee.now in
    let G : Goal = hoare (body k.call.before) judged.pre.now (before_call judged.rel Own k (globals_seen c.args.globals.now) c.args.contract.now judged.post.now) in
    subst (λ l. Answers (each_concluding c.args.goal.now (of_rest l judged.rel judged.bound.now G)) c.of_rest.result) c.in_ok-lost.ensures
    (c.of_rest.ensures G (c.in_ok-conclusion.ensures ∙ ap (λ f. form_of (hoare (body k.call.before) judged.pre.now f)) c.in_ok-before.ensures))
