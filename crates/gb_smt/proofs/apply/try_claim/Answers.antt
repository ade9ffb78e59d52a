use Rattle.std.proofs.Common.{◌≡◌, Some, subst, IfOk, sym, ap, ◌∙◌}
use Rattle.gb_labels.specs.Things.{most_labels}
use Rattle.gb_smt.specs.Apply.{trial_with}
use Rattle.gb_smt.proofs.apply.try_claim.Goals as goal

pub returns-in-Some : goal.returns-in-Some
returns-in-Some c =
    subst (λ o. IfOk c.try_up_to.result (λ trial. trial ≡ trial_with c.args.scope.now o c.args.claim.now))
    (ap Some c.as_slice-in-Some.ensures ∙ sym c.in-Some.is ∙ c.in_ok-most.ensures ∙ (λ i. most_labels ((c.as_slice.ensures ∙ c.in_ok-excluded.ensures) i) (c.as_slice-2.ensures i) c.args.claim.now.conclusion)) c.try_up_to.ensures

pub returns : goal.returns
returns c =
    ap (λ o. trial_with c.args.scope.now o c.args.claim.now) (sym c.in-None.is ∙ c.in_ok-most.ensures ∙ (λ i. most_labels ((c.as_slice.ensures ∙ c.in_ok-excluded.ensures) i) (c.as_slice-2.ensures i) c.args.claim.now.conclusion))
