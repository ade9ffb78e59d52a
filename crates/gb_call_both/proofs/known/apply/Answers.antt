use Rattle.std.proofs.Common.{refl}
use Rattle.gb_goal.specs.Views.{goal_seen}
use Rattle.gb_call_both.proofs.Returned.{returned}
use Rattle.gb_call_both.proofs.known.apply.Goals as goal

pub returns : goal.returns
returns c =
    returned c.args.scope.now c.args.acts c.args.judgment.now c.args.place c.args.goal.now (goal_seen c.goal_of-known.result) (goal_seen c.goal_of.result) c.goal_of-known.ensures c.goal_of.ensures
    (c.if-not-is_of_calls.ensures.0 refl) c.behind_first.result (c.behind_first.ensures _ (c.placed.ensures _ c.by_conditions-made.ensures))
