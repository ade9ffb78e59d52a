use Rattle.std.proofs.Common.{map, ◌∙◌}
use Rattle.gb_equality.proofs.Products.{card_of_types}
use Rattle.gb_equality.proofs.sizes.number_of_values.Goals as goal

pub returns : goal.returns
returns c =
    c.card_at.ensures ∙ card_of_types (map (λ v. v.ty) c.args.variables.now) _ _ c.are_finite.ensures c.size_of_variables.ensures
