use Rattle.std.proofs.Common.{◌≡◌, ◌∙◌, ◌++◌, filter, ap, subst, IfOk}
use Rattle.gb_walk.specs.Clash.{clashes, least, least_from}
use Rattle.gb_adv.proofs.OracleSteps.{least_fitting}
use Rattle.gb_adv.proofs.oracles.meeting_of.Goals as goal

pub returns : goal.returns
returns c =
    subst (λ o. IfOk c.copied.result (λ made. made ≡ o))
    (c.meeting_from-found-2.ensures
    ∙ ap (λ o. least_from o (filter (clashes c.args.exclusions.now c.in_ok-owner.owner) c.args.second.now)) c.meeting_from-found.ensures
    ∙ least_fitting (clashes c.args.exclusions.now c.in_ok-owner.owner) c.args.first.now c.args.second.now
    ∙ ap (λ o. least (filter (clashes c.args.exclusions.now o) (c.args.first.now ++ c.args.second.now))) c.in_ok-owner.ensures)
    c.copied.ensures
