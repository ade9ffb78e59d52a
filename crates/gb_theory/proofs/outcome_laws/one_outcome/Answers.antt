use Rattle.gb_theory.proofs.Unique.{one_outcome}
use Rattle.gb_theory.proofs.outcome_laws.one_outcome.Goals as goal

pub returns : goal.returns
returns c =
    let refusals = c.refusals_are_unique.ensures in
    one_outcome c.there_is_one_answer.ensures c.answers.ensures.one c.answers_of_uses.ensures.one c.commands_are_unique.ensures refusals.unique refusals.none
