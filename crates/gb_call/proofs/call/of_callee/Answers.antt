use Rattle.std.proofs.Common.{◌≡◌, Option, Some, ap, sym, ◌∙◌, subst}
use Rattle.std.specs.Option.{option_map}
use Rattle.gb_goal.specs.Answers.{Answers}
use Rattle.gb_goal.specs.Rows.{each_concluding}
use Rattle.gb_call.specs.Call.{Callee, callee_of, callee_seen, known_seen, of_callee}
use Rattle.gb_call.specs.LastCall.{call_seen}
use Rattle.gb_call.proofs.call.of_callee.Goals as goal

pub returns : goal.returns
returns c =
    let there : Some (callee_seen c.callee_of-callee.result) ≡ callee_of c.args.scope.now (option_map call_seen c.args.call) =
    ap Some c.callee_of-callee.ensures ∙ ap (option_map known_seen) (sym c.in-Some.is) ∙ c.in_ok-known.ensures in
    subst (λ (k : Option Callee). Answers (each_concluding c.args.goal.now (of_callee c.args.scope.now c.args.contract.now c.args.pre.now c.args.post.now k)) c.by_callee.result)
    there c.by_callee.ensures
