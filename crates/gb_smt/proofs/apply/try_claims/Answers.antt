use Rattle.std.proofs.Common.{◌-◌, length, take, drop, sym, ap, ◌∙◌}
use Rattle.gb_smt.specs.Apply.{open_after}
use Rattle.gb_smt.proofs.Trials.{first_and_others, first_true, other_true, none_true}
use Rattle.gb_smt.proofs.apply.try_claims.Goals as goal

pub returns-in-Some : goal.returns-in-Some
returns-in-Some c =
    none_true c.args.scope.now c.args.list.now (take (length c.args.list.now - 1) (drop 1 c.args.list.now)) c.claim-item.result c.in_ok-trial.trial (first_and_others c.args.list.now c.claim-item.result c.in-len1-up.len_at_least c.claim-item.is) c.in_ok-trial.ensures _ c.in-Some.shown c.left_open.result (sym c.is_true.ensures ∙ c.if-is_true.false) (c.in_ok-shown.ensures ∙ ap (λ o. open_after c.args.scope.now o (take (length c.args.list.now - 1) (drop 1 c.args.list.now))) c.open_at-first.ensures) c.in-Some.is c.left_open.ensures

pub returns-in-None : goal.returns-in-None
returns-in-None c =
    other_true c.args.scope.now c.args.list.now (take (length c.args.list.now - 1) (drop 1 c.args.list.now)) c.claim-item.result c.in_ok-trial.trial (first_and_others c.args.list.now c.claim-item.result c.in-len1-up.len_at_least c.claim-item.is) c.in_ok-trial.ensures _ (c.in_ok-shown.ensures ∙ ap (λ o. open_after c.args.scope.now o (take (length c.args.list.now - 1) (drop 1 c.args.list.now))) c.open_at-first.ensures) c.in-None.is

pub returns-then-is_true : goal.returns-then-is_true
returns-then-is_true c =
    first_true c.args.scope.now c.args.list.now (take (length c.args.list.now - 1) (drop 1 c.args.list.now)) c.claim-item.result c.in_ok-trial.trial (first_and_others c.args.list.now c.claim-item.result c.in-len1-up.len_at_least c.claim-item.is) c.in_ok-trial.ensures (sym c.is_true.ensures ∙ c.if-is_true.true)
