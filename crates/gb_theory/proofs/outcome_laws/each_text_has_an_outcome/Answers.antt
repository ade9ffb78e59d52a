use Rattle.gb_theory.proofs.Exists.{outcome}
use Rattle.gb_theory.proofs.outcome_laws.each_text_has_an_outcome.Goals as goal

pub returns : goal.returns
returns c =
    outcome c.there_is_an_answer.ensures c.answers.ensures.some c.answers_of_uses.ensures.some c.each_fault_has_a_place.ensures c.each_text_is_read_or_refused.ensures c.commands_have_bytes.ensures
