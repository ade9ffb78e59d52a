use Rattle.std.proofs.Common.{◌≡◌, subst, IfOk, ap, ◌∙◌}
use Rattle.gb_smt.specs.Assign.{found_of, labelled_claim}
use Rattle.gb_smt.proofs.assign.try_choice.Goals as goal

pub returns : goal.returns
returns c =
    subst (λ x. IfOk c.try_all.result (λ found. found ≡ found_of c.args.scope.now x))
    (c.in_ok-claim.ensures ∙ ap (λ ls. labelled_claim ls c.args.claim.now) (c.as_slice.ensures ∙ c.in_ok-choice.ensures)) c.try_all.ensures
