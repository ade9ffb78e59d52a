use Rattle.std.proofs.Common.{[], ◌∷◌, ◌++◌, ap, ◌∙◌}
use Rattle.std.proofs.lemmas.Result.{IfOk-weaker}
use Rattle.gb_smt.specs.Claims.{claim_of}
use Rattle.gb_equality.proofs.Marks.{marked_inside, marked_outside}
use Rattle.gb_smt.proofs.claims.take_joined.Goals as goal

pub returns-clause-others : goal.returns-clause-others
returns-clause-others c =
    let e = marked_outside c.args.hyps.now c.args.from.now c.as_slice-2.result.now (c.as_slice-2.ensures ∙ c.in_ok-marks.ensures) in
    rw e at c.marked-2.ensures

pub returns-clause-out : goal.returns-clause-out
returns-clause-out c =
    let joined = c.in_ok-joined.ensures ∙ marked_inside c.args.hyps.now c.args.from.now c.as_slice.result.now (c.as_slice.ensures ∙ c.in_ok-marks.ensures) in
    let pushed = c.in_ok-push.ensures.ok ∙ ap (λ x. c.args.out.now ++ x ∷ []) (c.in_ok-claim_of.ensures ∙ ap (λ l. claim_of l c.args.conclusion.now) joined) in
    IfOk-weaker c.marked-2.result _ _ (λ x h. pushed) c.marked-2.ensures
