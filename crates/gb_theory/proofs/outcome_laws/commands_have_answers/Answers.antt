use Rattle.gb_theory.proofs.Exists.{command, read}
use Rattle.gb_theory.proofs.outcome_laws.commands_have_answers.Goals as goal

pub returns-clause-runs : goal.returns-clause-runs
returns-clause-runs c = command c.there_is_an_answer.ensures c.answers.ensures.some c.answers_of_uses.ensures.some

pub returns-clause-read : goal.returns-clause-read
returns-clause-read c =
    read c.there_is_an_answer.ensures c.answers.ensures.some c.answers_of_uses.ensures.some c.each_fault_has_a_place.ensures c.each_text_is_read_or_refused.ensures c.commands_have_bytes.ensures
