use Rattle.std.proofs.Common.{◌≡◌, Option, Some, ap, sym, ◌∙◌, subst}
use Rattle.std.specs.Option.{option_map}
use Rattle.gb_goal.specs.Answers.{Answers}
use Rattle.gb_goal.specs.Rows.{each_concluding}
use Rattle.gb_call.specs.Call.{Callee, callee_of, callee_seen, chances_of_callee, known_seen}
use Rattle.gb_call.specs.LastCall.{call_seen}
use Rattle.gb_call.proofs.call.chances_of_callee.Goals as goal

pub returns : goal.returns
returns c =
    let judged = c.args.judged.now in
    let there : Some (callee_seen c.callee_of-callee.result) ≡ callee_of c.args.scope.now (option_map call_seen c.args.call) =
    ap Some c.callee_of-callee.ensures ∙ ap (option_map known_seen) (sym c.in-Some.is) ∙ c.in_ok-known.ensures in
    subst (λ (k : Option Callee). Answers (each_concluding c.args.goal.now
    (chances_of_callee c.args.scope.now c.args.contract.now judged.rel judged.pre.now judged.post.now judged.bound.now k)) c.chances_by_callee.result)
    there c.chances_by_callee.ensures
