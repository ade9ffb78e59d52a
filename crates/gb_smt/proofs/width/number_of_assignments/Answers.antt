use Rattle.std.proofs.Common.{◌^◌, ap, ◌∙◌, map, min}
use Rattle.std.specs.List.{flat_map}
use Rattle.gb_smt.specs.Width.{bound_types}
use Rattle.gb_smt.proofs.Scripts.{all_bound}
use Rattle.gb_equality.proofs.Products.{product, are_finite}
use Rattle.gb_smt.proofs.Sizes.{card_of_claim}
use Rattle.gb_smt.proofs.width.number_of_assignments.Goals as goal

pub returns : goal.returns
returns c =
    let b = all_bound c.script_of-script.result c.args.scope.now c.script_of-script.ensures.scope c.script_of-script.ensures.depth in
    c.card_at.ensures
    ∙ card_of_claim c.args.scope.now c.args.claim.now c.as_slice.result.now _ _ _ _ _ _ c.requires c.as_slice.ensures
    (c.are_finite.ensures ∙ ap (λ vs. are_finite (map (λ v. v.ty) vs)) c.as_slice-variables.ensures)
    (c.size_of_variables.ensures ∙ ap (λ vs. min (product (map (λ v. v.ty) vs)) (2 ^ 63)) c.as_slice-variables.ensures)
    (c.in_ok-hyps.ensures ∙ ap (λ o. min (product (flat_map (bound_types o) c.as_slice.result.now)) (2 ^ 63)) b)
    (c.in_ok-conclusion.ensures ∙ ap (λ o. min (product (bound_types o c.args.claim.now.conclusion)) (2 ^ 63)) b)
    c.times-bound.ensures c.times.ensures
