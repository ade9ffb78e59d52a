use Rattle.std.proofs.Common.{◌∙◌, ap, subst, sym}
use Rattle.std.specs.Prelude.{Err}
use Rattle.std.proofs.lemmas.Result.{err_from_is_err_and}
use Rattle.gb_terms.specs.declared.op.Side.TheVariants.{Own}
use Rattle.gb_goal.specs.Answers.{Answers}
use Rattle.gb_goal.specs.Goal.Code.{body, procedure}
use Rattle.gb_goal.specs.Goal.Goal.{hoare, phoare}
use Rattle.gb_goal.specs.Rows.{each_concluding}
use Rattle.gb_full.specs.Loss.{first_loss}
use Rattle.gb_full.specs.Lossless.{of_rest}
use Rattle.gb_call.specs.Call.{Callee, before_call, callee_seen, chance_goals}
use Rattle.gb_call.specs.Outcomes.{globals_seen}
use Rattle.gb_call.proofs.ChanceSteps.{front_fails}
use Rattle.gb_call.proofs.call.chance_goals.Goals as goal

pub returns-in_err-others : goal.returns-in_err-others
returns-in_err-others c =
    let judged = c.args.judged.now in
    let s = c.args.contract.now in
    let k : Callee = callee_seen c.args.callee.now in
    let given = err_from_is_err_and c.from_residual.result c.from_residual.ensures.1 in
    subst (Answers (each_concluding c.args.goal.now (chance_goals c.args.scope.now k (globals_seen c.args.globals.now) s judged.rel judged.pre.now judged.post.now judged.bound.now))) (sym (given.1 ∙ ap Err given.2))
    (front_fails c.args.goal.now (phoare (procedure k.call.procedure) judged.rel s.pre s.post judged.bound.now)
    (of_rest (first_loss c.args.scope.now k.call.before) judged.rel judged.bound.now (hoare (body k.call.before) judged.pre.now (before_call judged.rel Own k (globals_seen c.args.globals.now) s judged.post.now))) c.in_err-others.field-0.0
    c.in_err-others.ensures)
