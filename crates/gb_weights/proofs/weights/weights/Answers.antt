use Rattle.std.proofs.Common.{[], ap, sym, ◌∙◌}
use Rattle.std.specs.Option.{option_copied}
use Rattle.gb_names.specs.Environment.{environment}
use Rattle.gb_names.proofs.Answers.{answers_as}
use Rattle.gb_weights.specs.Weights.{weighed_all}
use Rattle.gb_weights.proofs.Stated.{weights_is}
use Rattle.gb_weights.proofs.weights.weights.Goals as goal

pub returns : goal.returns
returns c =
    let at = environment c.args.at.now in
    let xs = c.args.entries.now in
    answers_as _ _ c.wanted.result
    (weights_is xs c.args.place at c.args.bound.now (option_copied c.args.want) c.in_ok-distribution_here.field-0 c.in_ok-outcome_wanted.field-0 c.in_ok-outcomes.outcomes c.in_ok-pairs.pairs
    c.in_ok-distribution_here.ensures c.in_ok-outcome_wanted.ensures c.in_ok-outcomes.ensures
    (ap (λ t. weighed_all at c.args.bound.now t [] xs) (sym c.get.ensures) ∙ c.in_ok-pairs.ensures))
    (c.wanted.ensures _ c.stated.ensures)
