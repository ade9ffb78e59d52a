use Rattle.std.proofs.Common.{[], ◌∷◌}
use Rattle.gb_bodies.specs.Conseq.{pair_leads}
use Rattle.gb_adv.specs.Oracles.{each_keep_both}
use Rattle.gb_adv.specs.Proc.{end_alike, start_alike}
use Rattle.gb_adv.specs.Abstract.{procedure_seen}
use Rattle.gb_adv.proofs.OracleSteps.{goals_behind}
use Rattle.gb_adv.proofs.procedures.both_goals.Goals as goal

pub returns : goal.returns
returns c =
    let k = c.args.keeping.now in
    let f = procedure_seen c.args.left.now in
    let h = procedure_seen c.args.right.now in
    let start = pair_leads k.pre.now (start_alike f h k.kept.now) in
    let last = pair_leads (end_alike f k.kept.now) k.post.now in
    goals_behind k.goal.now (each_keep_both k.scope.now k.kept.now f.oracles h.oracles) (start ∷ last ∷ []) c.in_ok-goals.goals c.in_ok-last.last c.append.new.self c.in_ok-goals.ensures
    c.in_ok-last.ensures c.in_ok-append.ensures
