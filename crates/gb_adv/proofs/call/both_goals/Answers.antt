use Rattle.std.proofs.Common.{◌∙◌, [], ◌∷◌}
use Rattle.gb_goal.specs.Goal.Code.{body}
use Rattle.gb_goal.specs.Goal.Goal.{equiv}
use Rattle.gb_call.specs.Outcomes.{globals_seen}
use Rattle.gb_adv.specs.Abstract.{abstract_seen}
use Rattle.gb_adv.specs.Call.{before_calls}
use Rattle.gb_adv.specs.Oracles.{each_keep_both}
use Rattle.gb_adv.proofs.OracleSteps.{goals_behind, one_concluded}
use Rattle.gb_adv.proofs.call.both_goals.Goals as goal

pub returns : goal.returns
returns c =
    let z = c.args.keeping.now in
    let left = c.args.left.now in
    let right = c.args.right.now in
    let k = abstract_seen left.of.now in
    let l = abstract_seen right.of.now in
    let last = equiv (body k.call.before) (body l.call.before) z.pre.now (before_calls k (globals_seen left.globals.now) l (globals_seen right.globals.now) z.kept.now z.post.now) in
    goals_behind z.goal.now (each_keep_both z.scope.now z.kept.now k.called.oracles l.called.oracles) (last ∷ []) c.in_ok-goals.goals c.in_ok-one_goal.field-0 c.append.new.self c.in_ok-goals.ensures
    (c.in_ok-one_goal.ensures
    ∙ one_concluded z.goal.now c.in_ok-last.last last c.in_ok-last.ensures)
    c.in_ok-append.ensures
