use Rattle.gb_theory.proofs.Exists.{all_rules}
use Rattle.gb_theory.proofs.Unique.{one_rule}
use Rattle.gb_theory.proofs.outcome_laws.rules_have_answers.Goals as goal

pub returns-clause-some : goal.returns-clause-some
returns-clause-some c = all_rules c.there_is_an_answer.ensures c.answers.ensures.some c.answers_of_uses.ensures.some

pub returns-clause-one : goal.returns-clause-one
returns-clause-one c = one_rule c.there_is_one_answer.ensures c.answers.ensures.one c.answers_of_uses.ensures.one
