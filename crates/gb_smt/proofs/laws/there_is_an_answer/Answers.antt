use Rattle.gb_meaning.proofs.SameTerms.{same_terms}
use Rattle.gb_smt.proofs.Outcomes.{an_answer}
use Rattle.gb_smt.proofs.laws.there_is_an_answer.Goals as goal

pub returns : goal.returns
returns c = an_answer same_terms
